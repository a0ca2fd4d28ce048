use Rattle.std.proofs.Common.{◌≡◌, drop}
use Rattle.attr_keys.specs.Value.{integer_of, integer_from}
use Rattle.attr_keys.proofs.number.integer_of.Given as goal

abbrev pub invariant-loop-b : goal.invariant-loop-b
invariant-loop-b l = integer_of l.text ≡ integer_from l.state (drop l.b-index l.text)
