use Rattle.std.proofs.Common.{None, Some, sym, ap, ◌∙◌}
use Rattle.std.specs.Option.{option_copied}
use Rattle.urp_tree.specs.declared.row.Row.{Row}
use Rattle.urp_tree.proofs.Seen.{parent_row, parent_root}
use Rattle.urp_tree.proofs.asked.parent.Goals as goal

pub returns-then-is_root : goal.returns-then-is_root
returns-then-is_root c = λ suffix. sym (parent_root c.args.rows.now suffix c.args.id (sym c.is_root.ensures ∙ c.if-is_root.true))

pub returns-in-Some : goal.returns-in-Some
returns-in-Some c = λ suffix. ap (λ (r : Row). Some r.entry.parent) c.row.view_is ∙ sym (parent_row c.args.rows.now c.requires c.seat_count-seats.ensures.ordered suffix c.args.id (Some c.in-Some.row.now) (sym c.is_root.ensures ∙ c.if-is_root.false) (sym c.row_of.ensures ∙ ap option_copied c.in-Some.is))

pub returns-in-None : goal.returns-in-None
returns-in-None c = λ suffix. sym (parent_row c.args.rows.now c.requires c.seat_count-seats.ensures.ordered suffix c.args.id None (sym c.is_root.ensures ∙ c.if-is_root.false) (sym c.row_of.ensures ∙ ap option_copied c.in-None.is))
