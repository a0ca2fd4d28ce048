use Rattle.std.proofs.Common.{suc, length, inl, inr, sym, subst, ◌∙◌}
use Rattle.urp_tree.specs.Rows.{facts_in}
use Rattle.urp_tree.specs.Climb.{IsWay}
use Rattle.urp_tree.proofs.Fits.{on_each, way_same, own_below, own_rooted, own_modified, own_child, own_parent, own_live}
use Rattle.urp_tree.proofs.way.steps_of.Goals as goal

pub returns-then-is_modify-clause-leads : goal.returns-then-is_modify-clause-leads
returns-then-is_modify-clause-leads c =
    let row = own_modified c.args.rows.now c.requires.tree c.requires.ordered c.args.change.now c.requires.sound c.requires.known c.requires.fresh c.args.new.now c.requires.entry (sym c.is_modify.ensures ∙ c.if-is_modify.true) in
    subst (IsWay (suc (length (facts_in c.args.rows.now.entries))) (facts_in c.args.rows.now.entries) c.args.new.now) (sym c.new.ensures)
    (way_same c.args.rows.now c.requires.tree c.requires.ordered row.0 c.args.new.now row.1 (own_below c.args.rows.now c.requires.tree c.requires.ordered c.args.change.now c.requires.sound c.requires.known c.requires.fresh c.args.new.now c.requires.entry) row.2)

pub returns-then-is_modify-clause-child : goal.returns-then-is_modify-clause-child
returns-then-is_modify-clause-child c = inl c.new.ensures

pub returns-clause-child : goal.returns-clause-child
returns-clause-child c =
    on_each c.way.result
    (λ ss h. inr (own_child c.args.rows.now c.requires.tree c.requires.ordered c.args.change.now c.requires.sound c.requires.known c.requires.fresh c.args.new.now c.requires.entry (sym c.is_modify.ensures ∙ c.if-is_modify.false)))
    c.way.ensures

pub way-requires-clause-child : goal.way-requires-clause-child
way-requires-clause-child c = own_child c.args.rows.now c.requires.tree c.requires.ordered c.args.change.now c.requires.sound c.requires.known c.requires.fresh c.args.new.now c.requires.entry (sym c.is_modify.ensures ∙ c.if-is_modify.false)

pub way-requires-clause-below : goal.way-requires-clause-below
way-requires-clause-below c = own_below c.args.rows.now c.requires.tree c.requires.ordered c.args.change.now c.requires.sound c.requires.known c.requires.fresh c.args.new.now c.requires.entry

pub way-requires-clause-parent : goal.way-requires-clause-parent
way-requires-clause-parent c = own_rooted c.args.rows.now c.requires.tree c.requires.ordered c.args.change.now c.requires.sound c.requires.known c.requires.fresh c.args.new.now c.requires.entry

pub way-requires-clause-same_parent : goal.way-requires-clause-same_parent
way-requires-clause-same_parent c = own_parent c.args.rows.now c.requires.tree c.requires.ordered c.args.change.now c.requires.sound c.requires.known c.requires.fresh c.args.new.now c.requires.entry

pub way-requires-clause-live : goal.way-requires-clause-live
way-requires-clause-live c = own_live c.args.rows.now c.requires.tree c.requires.ordered c.args.change.now c.requires.sound c.requires.known c.requires.fresh c.args.new.now c.requires.entry
