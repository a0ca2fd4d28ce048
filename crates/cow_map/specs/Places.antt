-- Where a key stands among rows in rising order.
use Rattle.std.specs.Prelude.{◌≡◌, ℕ, ◌<◌, ◌≤◌, List, [], ◌∷◌, Bool, true, false, length, take, drop}
use Rattle.std.specs.Ordering.{is_lt}
use Rattle.std.specs.List.{AllByRecursion, HoldsAt}
use Rattle.std.specs.Map.{keys_of}
use Rattle.std.specs.declared.cmp.Ordering.{Ordering}
use Rattle.std.specs.declared.cmp.Ordering.TheVariants.{Less, Equal, Greater}

module _ {K V : Type 0} (cmp : K → K → Ordering) where
  -- the keys of these rows are below the key
  abbrev pub AreBelow : List (K × V) → K → Type 0
  AreBelow rows key = AllByRecursion (λ k. cmp key k ≡ Greater) (keys_of rows)

  -- the keys of these rows are above the key
  abbrev pub AreAbove : List (K × V) → K → Type 0
  AreAbove rows key = AllByRecursion (λ k. cmp key k ≡ Less) (keys_of rows)

  -- the row at this place has the key
  abbrev pub IsPlace : List (K × V) → K → ℕ → Type 0
  IsPlace rows key at = (at < length rows) × AreBelow (take at rows) key × HoldsAt (λ row. cmp key row.0 ≡ Equal) rows at

  -- no row has the key, and a row with it would stand before this place
  abbrev pub IsGap : List (K × V) → K → ℕ → Type 0
  IsGap rows key at = (at ≤ length rows) × AreBelow (take at rows) key × AreAbove (drop at rows) key

-- the first row of a page is above the key
abbrev pub starts_above : {K V : Type 0} → (K → K → Ordering) → List (K × V) → K → Bool
starts_above cmp [] key = false
starts_above cmp (row ∷ rows) key = is_lt (cmp key row.0)

-- A PLACE among keys, told by which of them are at it or behind it
-- what is behind such a key is so too
abbrev pub IsUpward : {K : Type 0} → (K → K → Ordering) → (K → Bool) → Type 0
IsUpward {K} cmp from = (a b : K) → cmp a b ≡ Less → from a ≡ true → from b ≡ true

module _ {K V : Type 0} (from : K → Bool) where
  -- the keys of these rows are before the place
  abbrev pub AreBefore : List (K × V) → Type 0
  AreBefore rows = AllByRecursion (λ k. from k ≡ false) (keys_of rows)

  -- the keys of these rows are at the place or behind it
  abbrev pub AreFrom : List (K × V) → Type 0
  AreFrom rows = AllByRecursion (λ k. from k ≡ true) (keys_of rows)

  -- the first row of a page is at the place or behind it
  abbrev pub begins_from : List (K × V) → Bool
  begins_from [] = false
  begins_from (row ∷ rows) = from row.0
