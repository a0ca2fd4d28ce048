-- A history is a list of entries, each of which names a number.
use Rattle.std.specs.Prelude.{◌≡◌, ◌≢◌, ℕ, ◌+◌, ◌^◌, ◌<◌, ◌≤◌, nat_lt, if◌then◌else◌, List, [], ◌∷◌, ◌++◌, length}
use Rattle.seat_lock.specs.Counts.{times, count_up}

module _ {E : Type 0} (number : E → ℕ) where
  -- how many entries name a number
  abbrev pub named : ℕ → List E → ℕ
  named k [] = 0
  named k (e ∷ es) = times k (number e ∷ []) + named k es

  -- no entry names one of these numbers
  abbrev pub IsForeign : List ℕ → List E → Type 0
  IsForeign numbers es = (k : ℕ) → 0 < times k numbers → named k es ≡ 0

  -- each entry names this number
  abbrev pub NamesOnly : ℕ → List E → Type 0
  NamesOnly number es = (k : ℕ) → k ≢ number → named k es ≡ 0

  -- the entries under these numbers, in order
  abbrev pub under : List ℕ → List E → List E
  under numbers [] = []
  under numbers (e ∷ es) = if nat_lt 0 (times (number e) numbers) then e ∷ under numbers es else under numbers es

  -- the history begins with what was seen, and what comes behind is of others
  abbrev pub GoesOn : List ℕ → List E → List E → Type 0
  GoesOn numbers seen history = (between : List E) × (history ≡ seen ++ between) × IsForeign numbers between

abbrev pub longer : {E : Type 0} → List E → List E → List E
longer xs ys = if nat_lt (length xs) (length ys) then ys else xs

-- the number stands in the list, and none there is below it
abbrev pub IsLeast : ℕ → List ℕ → Type 0
IsLeast number numbers = (0 < times number numbers) × ((k : ℕ) → 0 < times k numbers → number ≤ k)

-- all entries under these numbers name the least of them
abbrev pub IsUnderLeast : {E : Type 0} → (E → ℕ) → List ℕ → List E → Type 0
IsUnderLeast name numbers es = (k q : ℕ) → 0 < times k numbers → 0 < times q numbers → k < q → named name q es ≡ 0

-- so many numbers in a row, from this one on
abbrev pub IsRow : ℕ → ℕ → List ℕ → Type 0
IsRow number count numbers = (number + count ≤ 2 ^ 32) × (numbers ≡ count_up number count)
