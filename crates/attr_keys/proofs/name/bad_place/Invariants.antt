use Rattle.std.proofs.Common.{◌≡◌, drop}
use Rattle.attr_keys.specs.Name.{bad_from, bad_name}
use Rattle.attr_keys.proofs.name.bad_place.Given as goal

abbrev pub invariant-loop-at : goal.invariant-loop-at
invariant-loop-at l = bad_name l.name ≡ bad_from l.state l.at (drop l.at l.name)
