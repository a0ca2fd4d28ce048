use Rattle.repl_data.proofs.Bytes.{csn_of-csn_bytes, csn_bytes-csn_of, uid_text-exact}
use Rattle.repl_data.proofs.Numbers.{csn_cmp-number_of}
use Rattle.repl_data.proofs.csn.csn_laws.Goals as goal

pub returns-clause-number : goal.returns-clause-number
returns-clause-number c = csn_cmp-number_of

pub returns-clause-of_bytes : goal.returns-clause-of_bytes
returns-clause-of_bytes c = csn_of-csn_bytes

pub returns-clause-bytes_of : goal.returns-clause-bytes_of
returns-clause-bytes_of c = csn_bytes-csn_of

pub returns-clause-ids_differ : goal.returns-clause-ids_differ
returns-clause-ids_differ c = uid_text-exact
