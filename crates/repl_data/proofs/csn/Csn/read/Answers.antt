use Rattle.std.proofs.Common.{◌∙◌, ap}
use Rattle.repl_data.specs.Text.{read_csn}
use Rattle.repl_data.proofs.Bytes.{read_csn-found, read_csn-exact, read_csn-csn_text}
use Rattle.repl_data.proofs.csn.Csn.read.Goals as goal

pub returns-clause-found : goal.returns-clause-found
returns-clause-found c = rw c.of_digits.ensures (read_csn-found c.args.text.now)

pub returns-clause-exact : goal.returns-clause-exact
returns-clause-exact c = rw c.of_digits.ensures (read_csn-exact c.args.text.now)

pub returns-clause-again : goal.returns-clause-again
returns-clause-again c = λ csn h is. c.of_digits.ensures ∙ ap read_csn is ∙ read_csn-csn_text csn h
