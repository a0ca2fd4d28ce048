use Rattle.std.proofs.Common.{◌≡◌, ◌++◌, drop}
use Rattle.attr_keys.specs.Value.{phone_key}
use Rattle.attr_keys.proofs.text.phone_key.Given as goal

abbrev pub invariant-loop-b : goal.invariant-loop-b
invariant-loop-b l = phone_key l.value ≡ l.key ++ phone_key (drop l.b-index l.value)
