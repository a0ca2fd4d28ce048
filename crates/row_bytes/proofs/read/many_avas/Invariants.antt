use Rattle.std.proofs.Common.{◌≡◌, ◌-◌, length}
use Rattle.row_bytes.specs.Given.{place_of}
use Rattle.row_bytes.specs.Grammar.{ava_here}
use Rattle.row_bytes.specs.Place.{many_from}
use Rattle.row_bytes.proofs.Loops.{with_front}
use Rattle.row_bytes.proofs.read.many_avas.Given as goal

abbrev pub invariant-loop : goal.invariant-loop
invariant-loop l = with_front l.all (many_from ava_here (length l.p.bytes.now - l.counter) (place_of l.here)) ≡ many_from ava_here (length l.p.bytes.now) (place_of l.p)
