use Rattle.std.proofs.Common.{◌≡◌}
use Rattle.seat_lock.specs.Turns.{IsSamePlace}
use Rattle.seat_lock.proofs.wait.wait.Given as goal

abbrev pub invariant-loop : goal.invariant-loop
invariant-loop g l = IsSamePlace l.initial.seat l.seat × (l.seat.me ≡ l.initial.seat.me)
