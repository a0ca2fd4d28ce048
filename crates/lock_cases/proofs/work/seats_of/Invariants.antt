use Rattle.std.proofs.Common.{◌≡◌, ◌+◌, All, false, length, vec_len}
use Rattle.seat_lock.specs.Seats.{numbers, is_joined, IsOf, IsIdle}
use Rattle.lock_cases.specs.Ready.{IsReady}
use Rattle.lock_cases.proofs.work.seats_of.Given as goal

abbrev pub invariant-loop : goal.invariant-loop
invariant-loop l = IsOf l.lock l.first × IsIdle l.first × (is_joined l.first ≡ false) × (length (numbers l.first) + vec_len l.seats ≡ l.count) × (vec_len l.seats + 1 ≡ l.counter) × All (IsReady l.lock) l.seats.items
