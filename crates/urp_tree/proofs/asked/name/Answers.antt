use Rattle.std.proofs.Common.{None, Some, sym, ap, ◌∙◌}
use Rattle.std.specs.Option.{option_copied}
use Rattle.urp_tree.specs.declared.row.Row.{Row}
use Rattle.urp_tree.proofs.Seen.{name_row}
use Rattle.urp_tree.proofs.asked.name.Goals as goal

pub returns-in-Some : goal.returns-in-Some
returns-in-Some c = λ suffix. ap (λ (r : Row). Some r.entry.rdn) c.row.view_is ∙ sym (name_row c.args.rows.now c.requires c.seat_count-seats.ensures.ordered suffix c.args.id (Some c.in-Some.row.now) (sym c.row_of.ensures ∙ ap option_copied c.in-Some.is))

pub returns-in-None : goal.returns-in-None
returns-in-None c = λ suffix. sym (name_row c.args.rows.now c.requires c.seat_count-seats.ensures.ordered suffix c.args.id None (sym c.row_of.ensures ∙ ap option_copied c.in-None.is))
