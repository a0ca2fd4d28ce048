use Rattle.std.proofs.Common.{◌≡◌, drop}
use Rattle.dn_text.specs.Below.{are_same_parts}
use Rattle.dn_text.proofs.below.are_same_parts.Given as goal

abbrev pub invariant-loop-at : goal.invariant-loop-at
invariant-loop-at l = are_same_parts l.a l.b ≡ are_same_parts (drop l.at l.a) (drop l.at l.b)
