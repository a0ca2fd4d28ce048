use Rattle.std.proofs.Common.{◌≡◌, map, take}
use Rattle.plain_view.specs.declared.view.Listed.{Listed}
use Rattle.plain_view.proofs.view.entries_of.Given as goal

abbrev pub invariant-loop-one : goal.invariant-loop-one
invariant-loop-one l = l.entries ≡ map (λ (l : Listed). l.shown) (take l.one-index l.listed)
