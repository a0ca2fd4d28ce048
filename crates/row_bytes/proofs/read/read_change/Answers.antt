use Rattle.std.proofs.Common.{◌∙◌, ap, arith}
use Rattle.row_bytes.specs.Grammar.{row_at}
use Rattle.row_bytes.proofs.FoundRow.{found_by, only_by}
use Rattle.row_bytes.proofs.BackRow.{row_back}
use Rattle.row_bytes.proofs.read.read_change.Goals as goal

pub returns-clause-found : goal.returns-clause-found
returns-clause-found c = found_by c.args.bytes.now c.find_change.result (λ i. omega (arith, c.type_inv.bytes i)) c.find_change.ensures

pub returns-clause-only : goal.returns-clause-only
returns-clause-only c change i is = only_by c.args.bytes.now c.find_change.result _ c.find_change.ensures (ap row_at is ∙ row_back change i)
