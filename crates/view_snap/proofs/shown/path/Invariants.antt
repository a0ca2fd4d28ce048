use Rattle.std.proofs.Common.{◌≡◌, ℕ, List, ◌++◌}
use Rattle.repl_data.specs.View.{path_of}
use Rattle.view_snap.specs.Told.{view_of_rows}
use Rattle.view_snap.proofs.Paths.{low_count}
use Rattle.view_snap.proofs.shown.path.Given as goal

abbrev pub invariant-loop-seen : goal.invariant-loop-seen
invariant-loop-seen l = (suffix : List ℕ) → l.path ++ path_of (view_of_rows suffix l.entries) l.at ≡ path_of (view_of_rows suffix l.entries) l.fn.id

abbrev pub decreases-loop-seen : goal.decreases-loop-seen
decreases-loop-seen l = low_count l.at l.entries
