-- The rule of the lock, and what each step tells.
-- Word 0 is how many turns were drawn, and word 1 how many are over, both of them without what does not fit a word.
-- Slot 0 has the value. It is out with the seat whose turn it is.
use Rattle.std.specs.Prelude.{◌≡◌, ◌⊎◌, ℕ, ◌+◌, ◌%◌, ◌^◌, ◌<◌, ◌≤◌, ◌==◌, Bool, true, false, List, [], ◌∷◌, ◌++◌, length, MatchBool, Option, Some, None}
use mathlib.Core.Option as core
use lib.ListN.{get_elem?}
use Rattle.atomic_table.specs.Table.{State, Me, Step}
use Rattle.atomic_table.specs.declared.shared.Seat.{Seat}
use Rattle.seat_lock.specs.declared.view.View.{View}
use Rattle.seat_lock.specs.declared.view.Told.{Told}
use Rattle.seat_lock.specs.declared.view.Stage.{Stage}
use Rattle.seat_lock.specs.declared.view.Stage.TheVariants.{Idle, Waits, Holds}
use Rattle.seat_lock.specs.Counts.{one_if, times, count_up, total}
use Rattle.seat_lock.specs.Histories.{named, GoesOn, IsUnderLeast, longer}

-- 1 where the seat has drawn this turn, and it is not over
abbrev pub at_turn : ℕ → Stage → ℕ
at_turn x Idle = 0
at_turn x (Waits t) = one_if (t == x)
at_turn x (Holds t) = one_if (t == x)

-- 1 where the seat has drawn a turn that is not over
abbrev pub has_turn : Stage → ℕ
has_turn Idle = 0
has_turn (Waits t) = 1
has_turn (Holds t) = 1

abbrev pub is_holding : Stage → Bool
is_holding Idle = false
is_holding (Waits t) = false
is_holding (Holds t) = true

-- the word that serves the turn
abbrev pub turn_word : Stage → ℕ
turn_word Idle = 0
turn_word (Waits t) = t % 2 ^ 64
turn_word (Holds t) = t % 2 ^ 64

abbrev pub held : Stage → Stage
held Idle = Idle
held (Waits t) = Holds t
held (Holds t) = Holds t

abbrev pub but_last : List ℕ → List ℕ
but_last [] = []
but_last (n ∷ []) = []
but_last (n ∷ (m ∷ ns)) = n ∷ but_last (m ∷ ns)

abbrev pub last_alone : List ℕ → List ℕ
last_alone [] = []
last_alone (n ∷ []) = n ∷ []
last_alone (n ∷ (m ∷ ns)) = last_alone (m ∷ ns)

module _ {E G : Type 0} where
  abbrev pub view : List E → List ℕ → Bool → Stage → List (Told E) → Option G → View E G
  view seen numbers joined stage told fixed = record { seen = seen; numbers = numbers; joined = joined; stage = stage; told = told; fixed = fixed }

  abbrev pub at_stage : View E G → Stage → View E G
  at_stage v stage = view v.seen v.numbers v.joined stage v.told v.fixed

  abbrev pub told_of : View E G → Told E
  told_of v = record { numbers = v.numbers; seen = v.seen }

  -- the first seat has all numbers
  abbrev pub first_view : ℕ → G → View E G
  first_view seats fixed = view [] (count_up 0 seats) false Idle [] (Some fixed)

  -- what stays of a view when its greatest number goes to a new seat, and what the new seat has
  abbrev pub kept_view : View E G → View E G
  kept_view v = view v.seen (but_last v.numbers) v.joined v.stage [] v.fixed

  abbrev pub given_view : View E G → View E G
  given_view v = view v.seen (last_alone v.numbers) false Idle [] v.fixed

  -- two views in one, and what is left of the other
  abbrev pub both_views : View E G → View E G → View E G
  both_views v w = view (longer v.seen w.seen) (v.numbers ++ w.numbers) true v.stage (told_of v ∷ (told_of w ∷ [])) v.fixed

  abbrev pub spent_view : View E G
  spent_view = view [] [] true Idle [] None

module _ {T E G : Type 0} (history : T → List E) (number : E → ℕ) (fixed : T → G) where
  -- what holds of a seat that has the value out: its turn is served, and it has seen the whole history
  abbrev pub IsOut : List E → ℕ → List (core.Option (Option T)) → List E → Stage → Type 0
  IsOut so_far served homes seen Idle = Unit {0}
  IsOut so_far served homes seen (Waits t) = Unit {0}
  IsOut so_far served homes seen (Holds t) = (t ≡ served) × (homes ≡ core.none ∷ []) × (seen ≡ so_far)

  pub record Fits (so_far : List E) (base : G) (served : ℕ) (homes : List (core.Option (Option T))) (v : View E G) : Type 0 where
    pub goes_on : GoesOn number v.numbers v.seen so_far
    pub fixes : 0 < length v.numbers → v.fixed ≡ Some base
    -- a seat that no other was joined to has all its own entries under its least number
    pub alone : v.joined ≡ false → IsUnderLeast number v.numbers v.seen
    pub has_number : has_turn v.stage ≤ length v.numbers
    pub out : IsOut so_far served homes v.seen v.stage
    pub heard : (i : ℕ) (p : Told E) → get_elem? v.told i ≡ core.some p → GoesOn number p.numbers p.seen so_far × ((k : ℕ) → 0 < times k p.numbers → 0 < times k v.numbers)

  abbrev pub IsHome : List E → G → List (core.Option (Option T)) → Type 0
  IsHome so_far base homes = (x : T) × (homes ≡ core.some (Some x) ∷ []) × (history x ≡ so_far) × (fixed x ≡ base)

  abbrev pub IsTaken : List (core.Option (Option T)) → List (View E G) → Type 0
  IsTaken homes views = (homes ≡ core.none ∷ []) × (j : ℕ) × (v : View E G) × (get_elem? views j ≡ core.some v) × (is_holding v.stage ≡ true)

  pub record Kept (seats : ℕ) (s : State (Option T) (View E G)) : Type 0 where
    -- the history so far
    pub so_far : List E
    -- what stays as it was at the start
    pub base : G
    pub served : ℕ
    pub waiting : ℕ
    pub words : s.words ≡ (served + waiting) % 2 ^ 64 ∷ (served % 2 ^ 64 ∷ [])
    pub few : seats < 2 ^ 32
    -- the turns from the served one up to the next to draw belong to one seat each, and no others to any
    pub turns : (x : ℕ) → total (λ (v : View E G). at_turn x v.stage) s.views ≡ times x (count_up served waiting)
    pub drawn : total (λ (v : View E G). has_turn v.stage) s.views ≡ waiting
    -- each number below the number of seats belongs to one seat, and no others to any
    pub numbers : (k : ℕ) → total (λ (v : View E G). times k v.numbers) s.views ≡ times k (count_up 0 seats)
    pub dealt : total (λ (v : View E G). length v.numbers) s.views ≡ seats
    -- the history is told by the value at home, or by the seat that has it out
    pub place : IsHome so_far base s.homes ⊎ IsTaken s.homes s.views
    pub fits : (j : ℕ) (v : View E G) → get_elem? s.views j ≡ core.some v → Fits so_far base served s.homes v
    pub all_dealt : (k : ℕ) → seats ≤ k → named number k so_far ≡ 0

  abbrev Mine : Type 0
  Mine = Me (Option T) (View E G)

  -- a turn was drawn
  abbrev pub draws : Step (Option T) → Mine → ℕ → Mine → Type 0
  draws s m found m' = (t : ℕ) × (m' ≡ (at_stage m.0 (Waits t), m.1)) × (found ≡ t % 2 ^ 64)

  -- the value was taken, whose history begins with what the seat had seen
  abbrev pub Gains : Mine → Mine → Type 0
  Gains m m' = (x : T) × (m' ≡ (view (history x) m.0.numbers m.0.joined (held m.0.stage) m.0.told m.0.fixed, (0, Some x) ∷ m.1)) × GoesOn number m.0.numbers m.0.seen (history x) × (m.0.fixed ≡ Some (fixed x))

  -- at the seat's own turn
  abbrev pub looks : Step (Option T) → Mine → ℕ → Mine → Type 0
  looks s m found m' = MatchBool (found == turn_word m.0.stage) (Gains m m') (m' ≡ m)

  -- the value went home, and the turn is over
  abbrev pub passes : Step (Option T) → Mine → ℕ → Mine → Type 0
  passes s m found m' = (x : T) → m.1 ≡ (0, Some x) ∷ [] → m' ≡ (view (history x) m.0.numbers m.0.joined Idle [] m.0.fixed, [])

  -- the history so far was seen, by an idle seat, and it goes on from all that the seat was told of
  abbrev pub sees : Step (Option T) → Mine → ℕ → Mine → Type 0
  sees s m found m' =
      (so_far : List E)
      × (m' ≡ (view so_far m.0.numbers m.0.joined m.0.stage [] m.0.fixed, m.1))
      × GoesOn number m.0.numbers m.0.seen so_far
      × ((i : ℕ) (p : Told E) → get_elem? m.0.told i ≡ core.some p → GoesOn number p.numbers p.seen so_far)
      × (m.0.joined ≡ false → IsUnderLeast number m.0.numbers so_far)

  -- the value was taken in the turn that was drawn
  abbrev pub Gained : Mine → Mine → Type 0
  Gained m m' = Gains m m' × (is_holding m'.0.stage ≡ true)

module _ {T E G : Type 0} where
  abbrev pub IsSamePlace : Seat T (View E G) → Seat T (View E G) → Type 0
  IsSamePlace p p' = (p'.table_id ≡ p.table_id) × (p'.id ≡ p.id)

  -- the seat has drawn the turn that this word serves
  abbrev pub HasDrawn : ℕ → Me T (View E G) → Type 0
  HasDrawn turn m = (t : ℕ) × (m.0.stage ≡ Waits t) × (turn ≡ t % 2 ^ 64)
