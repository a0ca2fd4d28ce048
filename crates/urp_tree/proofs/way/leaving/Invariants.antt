use Rattle.std.proofs.Common.{◌≡◌, ◌++◌, reverse, vec_len}
use Rattle.urp_tree.specs.Climb.{leaves}
use Rattle.urp_tree.proofs.way.leaving.Given as goal

abbrev pub invariant-loop-child : goal.invariant-loop-child
invariant-loop-child l = l.steps ++ leaves (reverse l.rest.items) ≡ l.initial.steps ++ leaves (reverse l.initial.rest.items)

abbrev pub decreases-loop-child : goal.decreases-loop-child
decreases-loop-child l = vec_len l.rest
