use Rattle.std.proofs.Common.{◌≡◌, ◌+◌, drop}
use Rattle.dn_text.specs.declared.escape.EscapeState.TheVariants.{Whole}
use Rattle.dn_text.specs.Escape.{escapes_from}
use Rattle.dn_text.proofs.escape.check_escapes.Given as goal

abbrev pub invariant-loop-at : goal.invariant-loop-at
invariant-loop-at l = escapes_from Whole l.start l.text ≡ escapes_from l.state (l.start + l.at) (drop l.at l.text)
