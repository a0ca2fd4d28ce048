use Rattle.std.proofs.Common.{◌≡◌, ◌+◌, length}
use Rattle.dn_text.specs.Split.{pieces}
use Rattle.dn_text.specs.Reading.{rdns_in}
use Rattle.dn_text.proofs.Parts.{after_rdns}
use Rattle.dn_text.proofs.name.rdns.Given as goal

abbrev pub invariant-loop-piece : goal.invariant-loop-piece
invariant-loop-piece l = record {
  fits : l.at + length l.rest ≡ length l.fn.text;
  so_far : after_rdns l.rdns (rdns_in (pieces 44 l.at l.rest)) ≡ rdns_in (pieces 44 0 l.fn.text);
}

abbrev pub decreases-loop-piece : goal.decreases-loop-piece
decreases-loop-piece l = length l.rest
