use Rattle.std.proofs.Common.{◌≡◌, None, Some, sym, ap, ◌∙◌}
use Rattle.std.specs.Option.{option_copied}
use Rattle.urp_tree.proofs.Holder.{holder_row, holder_none}
use Rattle.urp_tree.proofs.asked.holder.Goals as goal

pub returns-in-Some : goal.returns-in-Some
returns-in-Some c = λ suffix plain. c.holder.ensures ∙ holder_row c.args.rows.now c.requires c.seat_count-seats.ensures.ordered suffix c.args.parent c.args.rdn.now plain c.in-Some.row.now (sym c.row_of.ensures ∙ ap option_copied c.in-Some.is)

pub returns-in-None : goal.returns-in-None
returns-in-None c = λ suffix plain. holder_none c.args.rows.now c.requires c.seat_count-seats.ensures.ordered suffix c.args.parent c.args.rdn.now plain (sym c.row_of.ensures ∙ ap option_copied c.in-None.is)
