use Rattle.std.proofs.Common.{◌≡◌, List, true, ◌++◌}
use Rattle.repl_data.specs.Presence.{is_among_entries}
use Rattle.urp_tree.specs.declared.child.Child.{Child}
use Rattle.urp_tree.specs.Rows.{facts_in}
use Rattle.urp_tree.specs.Walk.{children_in}
use Rattle.urp_tree.specs.Climb.{IsChain}
use Rattle.urp_tree.proofs.Chains.{lower_count}
use Rattle.urp_tree.proofs.way.chain.Given as goal

abbrev pub invariant-loop-entry : goal.invariant-loop-entry
invariant-loop-entry l = record {
  there : is_among_entries (facts_in l.rows.entries) l.at ≡ true;
  more : (rest : List Child) → IsChain l.children (facts_in l.rows.entries) (children_in l.rows) l.at rest → IsChain l.children (facts_in l.rows.entries) (children_in l.rows) l.fn.from (l.chain ++ rest);
}

abbrev pub decreases-loop-entry : goal.decreases-loop-entry
decreases-loop-entry l = lower_count l.at (facts_in l.rows.entries)
