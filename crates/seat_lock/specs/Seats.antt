-- What the contracts say of a seat and its lock.
use Rattle.std.specs.Prelude.{◌≡◌, ℕ, Bool, true, List, [], ◌∷◌, Option, None}
use Rattle.seat_lock.specs.declared.lock.SeatLock.{SeatLock}
use Rattle.seat_lock.specs.declared.seat.SeatOf.{SeatOf}
use Rattle.seat_lock.specs.declared.view.Stage.TheVariants.{Idle}
use Rattle.seat_lock.specs.Turns.{is_holding}
use Rattle.seat_lock.specs.Histories.{under}

abbrev pub seats_of : {T E F : Type 0} → SeatLock T E F → ℕ
seats_of lock = lock.table.shared.key.seats

module _ {T E F : Type 0} where
  -- the history, as far as the seat has seen it
  abbrev pub seen : SeatOf T E F → List E
  seen s = s.place.me.0.seen

  abbrev pub numbers : SeatOf T E F → List ℕ
  numbers s = s.place.me.0.numbers

  -- another seat was joined to it
  abbrev pub is_joined : SeatOf T E F → Bool
  is_joined s = s.place.me.0.joined

  -- what of the value stays
  abbrev pub fixed : SeatOf T E F → Option F
  fixed s = s.place.me.0.fixed

  -- the seat's own entries, in order
  abbrev pub own : (E → ℕ) → SeatOf T E F → List E
  own number s = under number (numbers s) (seen s)

  abbrev pub IsOf : SeatLock T E F → SeatOf T E F → Type 0
  IsOf lock s = s.place.table_id ≡ lock.table.shared.table_id

  -- the seat has no turn
  abbrev pub IsIdle : SeatOf T E F → Type 0
  IsIdle s = (s.place.me.0.stage ≡ Idle) × (s.place.me.1 ≡ [])

  -- it is the seat's turn, and its holder has the value
  abbrev pub HasTurn : SeatOf T E F → Type 0
  HasTurn s = (is_holding s.place.me.0.stage ≡ true) × (s.place.me.1 ≡ (0, None) ∷ [])

  -- it is a seat of the same lock, with the same numbers
  abbrev pub IsSame : SeatOf T E F → SeatOf T E F → Type 0
  IsSame s s' = (s'.place.table_id ≡ s.place.table_id) × (s'.number ≡ s.number) × (numbers s' ≡ numbers s) × (is_joined s' ≡ is_joined s) × (fixed s' ≡ fixed s)
