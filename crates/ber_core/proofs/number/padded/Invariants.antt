use Rattle.std.proofs.Common.{◌≡◌}
use Rattle.ber_core.proofs.Padded.{so_far}
use Rattle.ber_core.proofs.number.padded.Given as goal

abbrev pub invariant-loop-i : goal.invariant-loop-i
invariant-loop-i l = l.out ≡ so_far l.pad l.count l.bytes l.i
