use Rattle.std.proofs.Common.{◌∙◌, sym}
use Rattle.row_bytes.proofs.Kept.{own_row}
use Rattle.row_bytes.proofs.stored.find_stored.Goals as goal

pub returns-clause-found : goal.returns-clause-found
returns-clause-found c = own_row c.args.row.now c.in_ok-change.change c.in_ok-belongs.ensures (sym c.as_slice.ensures ∙ c.in_ok-change.ensures.found)
