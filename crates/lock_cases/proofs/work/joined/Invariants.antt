use Rattle.std.proofs.Common.{◌≡◌, ◌+◌, All, length, vec_len}
use Rattle.seat_lock.specs.Seats.{numbers, IsOf, IsIdle}
use Rattle.lock_cases.specs.Ready.{IsReady}
use Rattle.lock_cases.proofs.work.joined.Given as goal

abbrev pub decreases-loop-seat : goal.decreases-loop-seat
decreases-loop-seat l = vec_len l.seats

abbrev pub invariant-loop-seat : goal.invariant-loop-seat
invariant-loop-seat l = IsOf l.lock l.whole × IsIdle l.whole × (length (numbers l.whole) + vec_len l.seats ≡ vec_len l.fn.seats) × All (IsReady l.lock) l.seats.items
