use Rattle.std.proofs.Common.{sym, subst, ◌∙◌}
use Rattle.repl_data.specs.View.{view_of_facts}
use Rattle.urp_tree.specs.Changes.{HasRisingChanges}
use Rattle.urp_tree.specs.Known.{put_fact}
use Rattle.view_counts.proofs.Trees.{still_counted, still_moves}
use Rattle.view_counts.proofs.tree.CountedTree.plan.Goals as goal

pub moved-requires-clause-counted : goal.moved-requires-clause-counted
moved-requires-clause-counted c = still_counted c.self.inside.tree c.plan.new.self c.in_ok-plan.ensures.facts c.in_ok-plan.ensures.suffix c.self.inside.counts c.self.invariant

pub moved-requires-clause-rises : goal.moved-requires-clause-rises
moved-requires-clause-rises c = subst HasRisingChanges (sym (c.as_slice.ensures ∙ c.changed.ensures)) c.in_ok-plan.ensures.changed.rises

pub moved-requires-clause-moves : goal.moved-requires-clause-moves
moved-requires-clause-moves c = (
  view_of_facts c.plan.new.self.suffix (put_fact c.in_ok-plan.plan.entry c.plan.new.self.facts),
  still_moves c.self.inside.tree c.plan.new.self c.in_ok-plan.ensures.facts c.in_ok-plan.ensures.suffix c.in_ok-plan.plan.entry c.in_ok-plan.plan.changed c.as_slice.result.now (c.as_slice.ensures ∙ c.changed.ensures) c.in_ok-plan.ensures.moves,
)

pub returns-clause-ready : goal.returns-clause-ready
returns-clause-ready c = record {
  ready = c.in_ok-plan.ensures.ready;
  counted =
      c.in_ok-counts.ensures (view_of_facts c.plan.new.self.suffix (put_fact c.in_ok-plan.plan.entry c.plan.new.self.facts))
      (still_moves c.self.inside.tree c.plan.new.self c.in_ok-plan.ensures.facts c.in_ok-plan.ensures.suffix c.in_ok-plan.plan.entry c.in_ok-plan.plan.changed c.as_slice.result.now (c.as_slice.ensures ∙ c.changed.ensures) c.in_ok-plan.ensures.moves);
}
