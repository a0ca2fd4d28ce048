use Rattle.std.proofs.Common.{◌≡◌, ◌++◌, vec_len}
use Rattle.urp_tree.specs.Climb.{enters}
use Rattle.urp_tree.proofs.way.entering.Given as goal

abbrev pub invariant-loop-child : goal.invariant-loop-child
invariant-loop-child l = l.steps ++ enters l.rest.items ≡ l.initial.steps ++ enters l.initial.rest.items

abbrev pub decreases-loop-child : goal.decreases-loop-child
decreases-loop-child l = vec_len l.rest
