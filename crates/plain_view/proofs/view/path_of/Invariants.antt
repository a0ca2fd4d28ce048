use Rattle.std.proofs.Common.{◌≡◌, ◌++◌, ◌≤◌, length, take}
use Rattle.std.specs.Prelude.{reverse}
use Rattle.repl_data.specs.View.{path_among}
use Rattle.plain_view.proofs.view.path_of.Given as goal

abbrev pub invariant-loop-left : goal.invariant-loop-left
invariant-loop-left l = (l.left ≤ length l.present) × (l.path ++ path_among (reverse (take l.left l.present)) l.up ≡ path_among (reverse l.present) l.fn.id)

abbrev pub decreases-loop-left : goal.decreases-loop-left
decreases-loop-left l = l.left
