use Rattle.std.proofs.Common.{◌≡◌, ◌+◌, drop}
use Rattle.dn_text.specs.Split.{space_count}
use Rattle.dn_text.proofs.split.space_count.Given as goal

abbrev pub invariant-loop-at : goal.invariant-loop-at
invariant-loop-at l = space_count l.text ≡ l.at + space_count (drop l.at l.text)
