use Rattle.std.proofs.Common.{◌≡◌, map, take}
use Rattle.plain_view.specs.declared.view.Child.{Child}
use Rattle.plain_view.proofs.view.ids_of.Given as goal

abbrev pub invariant-loop-c : goal.invariant-loop-c
invariant-loop-c l = l.ids ≡ map (λ (c : Child). c.id) (take l.c-index l.children)
