use Rattle.std.proofs.Common.{◌≡◌, List, [], true, false, refl, sym, ap, subst, inl, inr, ◌∙◌}
use Rattle.std.specs.Prelude.{flat_map}
use Rattle.repl_data.specs.declared.csn.Uid.{Uid}
use Rattle.repl_data.specs.Order.{uid_eq, suffix_id}
use Rattle.repl_data.specs.View.{view_of_facts}
use Rattle.urp_tree.specs.declared.child.Child.{Child}
use Rattle.urp_tree.specs.declared.changed.Changed.{Changed}
use Rattle.urp_tree.specs.declared.step.Step.{Step}
use Rattle.urp_tree.specs.Rows.{facts_in}
use Rattle.urp_tree.specs.Walk.{children_in, children_of_facts, stepped}
use Rattle.urp_tree.specs.Known.{put_fact}
use Rattle.urp_tree.specs.Changes.{AreChanges}
use Rattle.urp_tree.specs.Moves.{IsViewMove}
use Rattle.urp_tree.proofs.Fits.{on_each}
use Rattle.urp_tree.proofs.Differ.{placed_changes, placed_moves}
use Rattle.urp_tree.proofs.changed.changes.Goals as goal

pub returns-clause-changed : goal.returns-clause-changed
returns-clause-changed c =
    on_each c.listed.result
    (λ (xs : List Changed) h suffix.
    subst (AreChanges (view_of_facts suffix (facts_in c.args.rows.now.entries)) (view_of_facts suffix (put_fact c.args.new.now.entry (facts_in c.args.rows.now.entries))) c.args.new.now.entry.id) (sym h)
    (placed_changes c.args.rows.now c.requires.tree c.seat_count-seats.ensures.ordered c.args.new.now c.requires.fresh c.requires.below c.requires.root c.requires.plain
    c.args.steps.now c.requires.way.leads c.requires.child c.in_ok-places.places c.put_own.new.places c.entry_id-target.result c.entry_id-target.ensures
    c.in_ok-places.ensures.places c.in_ok-places.ensures.rest c.in_ok-put_own.ensures.places c.in_ok-put_own.ensures.keeps c.in_ok-put_own.ensures.there suffix c.len-count.ensures.ordered))
    c.listed.ensures

pub returns-clause-moves : goal.returns-clause-moves
returns-clause-moves c =
    on_each c.listed.result
    (λ (xs : List Changed) h suffix.
    subst (IsViewMove (view_of_facts suffix (facts_in c.args.rows.now.entries)) (view_of_facts suffix (put_fact c.args.new.now.entry (facts_in c.args.rows.now.entries)))) (sym h)
    (placed_moves c.args.rows.now c.requires.tree c.seat_count-seats.ensures.ordered c.args.new.now c.requires.fresh c.requires.below c.requires.root c.requires.plain
    c.args.steps.now c.requires.way.leads c.requires.child c.in_ok-places.places c.put_own.new.places c.entry_id-target.result c.entry_id-target.ensures
    c.in_ok-places.ensures.places c.in_ok-places.ensures.rest c.in_ok-put_own.ensures.places c.in_ok-put_own.ensures.keeps c.in_ok-put_own.ensures.there suffix c.len-count.ensures.ordered))
    c.listed.ensures

pub places_after-requires-clause-trues : goal.places_after-requires-clause-trues
places_after-requires-clause-trues c = (_, c.requires.way.trues)
