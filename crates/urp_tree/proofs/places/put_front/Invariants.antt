use Rattle.std.specs.Option.{option_copied}
use Rattle.urp_tree.proofs.Fronts.{FrontAt}
use Rattle.urp_tree.proofs.places.put_front.Given as goal

abbrev pub invariant-loop-c : goal.invariant-loop-c
invariant-loop-c l = FrontAt l.front l.id (option_copied l.entered) l.initial.places l.places l.c-index
