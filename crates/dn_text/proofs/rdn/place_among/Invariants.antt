use Rattle.std.proofs.Common.{◌≡◌, ◌+◌, drop}
use Rattle.dn_text.specs.Reading.{place_among}
use Rattle.dn_text.proofs.rdn.place_among.Given as goal

abbrev pub invariant-loop-at : goal.invariant-loop-at
invariant-loop-at l = place_among l.ava l.avas ≡ l.at + place_among l.ava (drop l.at l.avas)
