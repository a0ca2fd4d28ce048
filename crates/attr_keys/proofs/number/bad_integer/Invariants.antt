use Rattle.std.proofs.Common.{◌≡◌, drop}
use Rattle.attr_keys.specs.Value.{bad_integer, bad_number_from}
use Rattle.attr_keys.proofs.number.bad_integer.Given as goal

abbrev pub invariant-loop-at : goal.invariant-loop-at
invariant-loop-at l = bad_integer l.text ≡ bad_number_from l.state l.at (drop l.at l.text)
