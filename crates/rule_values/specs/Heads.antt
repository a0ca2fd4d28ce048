-- The first bytes of a key, which mostly tell how it compares; and the laws of comparing keys.
use Rattle.std.specs.Prelude.{◌≡◌, ℕ, zero, suc, List, [], ◌∷◌, Option, Some, None, refl}
use Rattle.std.specs.declared.cmp.Ordering.{Ordering}
use Rattle.std.specs.Cmp.{IsEquivalence, eq_by_cmp_equiv}
use Rattle.std.specs.Cmp.Lexicographic.{nat_list_cmp_total}
use Rattle.std.specs.Ordering.{eq_by_cmp}
use Rattle.repl_data.specs.declared.change.Val.{Val}
use Rattle.repl_data.specs.Order.{bytes_cmp, bytes_eq}

-- so many bytes from the front, with zeros where there are no more
abbrev pub front : ℕ → List ℕ → List ℕ
front zero key = []
front (suc n) [] = 0 ∷ front n []
front (suc n) (b ∷ key) = b ∷ front n key

-- a byte, and zero where there is none
abbrev pub byte_or_zero : Option ℕ → ℕ
byte_or_zero None = 0
byte_or_zero (Some b) = b

-- values by their keys
abbrev pub val_cmp : Val → Val → Ordering
val_cmp a b = bytes_cmp a.key b.key

pub keys_equiv : IsEquivalence bytes_eq
keys_equiv = eq_by_cmp_equiv nat_list_cmp_total

pub keys_alike : (a b : List ℕ) → bytes_eq a b ≡ eq_by_cmp bytes_cmp a b
keys_alike a b = refl
