use Rattle.std.proofs.Common.{sym, ap, ◌∙◌}
use Rattle.std.specs.Option.{option_copied}
use Rattle.urp_tree.proofs.Fits.{on_each, next_new, next_row_of, row_id}
use Rattle.urp_tree.proofs.plan.next_row.Goals as goal

pub returns-then-is_add-clause-facts : goal.returns-then-is_add-clause-facts
returns-then-is_add-clause-facts c =
    on_each c.added_row.result
    (λ r h suffix. h suffix ∙ sym (next_new c.args.rows.now c.requires.tree c.requires.ordered c.args.change.now c.requires.sound c.requires.known c.requires.new (sym c.is_add.ensures ∙ c.if-is_add.true) suffix))
    c.added_row.ensures.facts

pub applied_row-requires-clause-ordered : goal.applied_row-requires-clause-ordered
applied_row-requires-clause-ordered c =
    (c.requires.tree.sound c.args.change.now.target c.in-Some.row.now (sym c.row_of.ensures ∙ ap option_copied c.in-Some.is)).ordered

pub applied_row-requires-clause-target : goal.applied_row-requires-clause-target
applied_row-requires-clause-target c =
    sym (row_id c.args.rows.now c.requires.tree c.requires.ordered c.args.change.now.target c.in-Some.row.now (sym c.row_of.ensures ∙ ap option_copied c.in-Some.is))

pub returns-in-Some-clause-facts : goal.returns-in-Some-clause-facts
returns-in-Some-clause-facts c =
    on_each c.applied_row.result
    (λ r h suffix. h ∙ sym (next_row_of c.args.rows.now c.requires.tree c.requires.ordered c.args.change.now c.requires.sound c.requires.known c.requires.new suffix c.in-Some.row.now (sym c.row_of.ensures ∙ ap option_copied c.in-Some.is)))
    c.applied_row.ensures.facts
