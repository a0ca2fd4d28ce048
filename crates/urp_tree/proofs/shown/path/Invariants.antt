use Rattle.std.proofs.Common.{◌≡◌, ℕ, List, true, ◌++◌}
use Rattle.repl_data.specs.Presence.{present_of, is_among_entries}
use Rattle.repl_data.specs.View.{view_of_facts, path_of}
use Rattle.urp_tree.specs.Rows.{facts_in}
use Rattle.urp_tree.proofs.Chains.{lower_count}
use Rattle.urp_tree.proofs.shown.path.Given as goal

abbrev pub invariant-loop-entry : goal.invariant-loop-entry
invariant-loop-entry l = record {
  there : is_among_entries (present_of (facts_in l.rows.entries)) l.at ≡ true;
  more : (suffix : List ℕ) → l.path ++ path_of (view_of_facts suffix (facts_in l.rows.entries)) l.at ≡ path_of (view_of_facts suffix (facts_in l.rows.entries)) l.fn.id;
}

abbrev pub decreases-loop-entry : goal.decreases-loop-entry
decreases-loop-entry l = lower_count l.at (facts_in l.rows.entries)
