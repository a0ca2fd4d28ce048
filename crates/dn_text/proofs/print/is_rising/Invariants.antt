use Rattle.std.proofs.Common.{◌≡◌, drop}
use Rattle.dn_text.specs.Print.{is_rising}
use Rattle.dn_text.proofs.print.is_rising.Given as goal

abbrev pub invariant-loop-at : goal.invariant-loop-at
invariant-loop-at l = is_rising l.avas ≡ is_rising (drop l.at l.avas)
