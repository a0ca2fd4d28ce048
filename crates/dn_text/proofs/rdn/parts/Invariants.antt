use Rattle.std.proofs.Common.{◌≡◌, ◌+◌, [], length}
use Rattle.dn_text.specs.Split.{pieces}
use Rattle.dn_text.specs.Reading.{parts_in}
use Rattle.dn_text.proofs.rdn.parts.Given as goal

abbrev pub invariant-loop-piece : goal.invariant-loop-piece
invariant-loop-piece l = record {
  fits : l.at + length l.rest ≡ l.fn.start + length l.fn.text;
  so_far : parts_in l.avas (pieces 43 l.at l.rest) ≡ parts_in [] (pieces 43 l.fn.start l.fn.text);
}

abbrev pub decreases-loop-piece : goal.decreases-loop-piece
decreases-loop-piece l = length l.rest
