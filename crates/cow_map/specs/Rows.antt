-- A map as the list of its rows, in rising order of their keys.
use Rattle.std.specs.Prelude.{◌≡◌, List, Option}
use Rattle.std.specs.List.{flat_map}
use Rattle.std.specs.List.Sorted.{IsStrictlySortedBy}
use Rattle.std.specs.Map.{keys_of, lookup}
use Rattle.std.specs.BTreeMap.{is_at}
use Rattle.std.specs.declared.cmp.Ordering.{Ordering}

module _ {K V : Type 0} where
  -- each key is below those behind it
  abbrev pub IsRising : (K → K → Ordering) → List (K × V) → Type 0
  IsRising cmp rows = IsStrictlySortedBy cmp (keys_of rows)

  -- the value of the row whose key compares equal to this one
  abbrev pub value_at : (K → K → Ordering) → List (K × V) → K → Option V
  value_at cmp rows key = lookup (is_at (cmp key)) rows

  -- the rows of pages, one page after the other
  abbrev pub all_rows : List (List (K × V)) → List (K × V)
  all_rows pages = flat_map (λ page. page) pages

-- a clone of a key is that key
abbrev pub ClonesAreEqual : {K : Type 0} → (K → K → Type 0) → Type 0
ClonesAreEqual {K} is_clone = (key clone : K) → is_clone key clone → clone ≡ key
