-- A seat that a thread takes its turns with.
use Rattle.std.specs.Prelude.{◌≡◌, length}
use Rattle.seat_lock.specs.declared.lock.SeatLock.{SeatLock}
use Rattle.seat_lock.specs.declared.seat.SeatOf.{SeatOf}
use Rattle.seat_lock.specs.Seats.{numbers, IsOf, IsIdle}

-- it is an idle seat of this lock, with one number
abbrev pub IsReady : {T E F : Type 0} → SeatLock T E F → SeatOf T E F → Type 0
IsReady lock seat = IsOf lock seat × IsIdle seat × (length (numbers seat) ≡ 1)
