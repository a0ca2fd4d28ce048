use Rattle.std.proofs.Common.{◌≡◌, ◌+◌, drop}
use Rattle.dn_text.specs.Escape.{value_from, value_of}
use Rattle.dn_text.proofs.Values.{after}
use Rattle.dn_text.proofs.escape.value.Given as goal

abbrev pub invariant-loop-at : goal.invariant-loop-at
invariant-loop-at l = value_of l.start l.text ≡ after l.value (value_from l.state (l.start + l.at) (drop l.at l.text))
