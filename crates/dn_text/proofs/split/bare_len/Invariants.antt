use Rattle.std.proofs.Common.{◌≡◌, ◌+◌, false, drop}
use Rattle.dn_text.specs.Split.{bare_len}
use Rattle.dn_text.proofs.split.bare_len.Given as goal

abbrev pub invariant-loop-at : goal.invariant-loop-at
invariant-loop-at l = bare_len l.by false l.text ≡ l.at + bare_len l.by l.escaped (drop l.at l.text)
