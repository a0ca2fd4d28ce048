-- The first bytes of two keys tell how they compare, but where they are the same.
use Rattle.std.proofs.Common.{◌≡◌, ℕ, zero, suc, List, [], ◌∷◌, refl, sym, ap, ◌∙◌, Ordering, Less, Equal, Greater}
use Rattle.std.specs.Ordering.{ordering_then, ordering_reverse, nat_cmp}
use Rattle.repl_data.specs.Order.{bytes_cmp}
use Rattle.repl_data.proofs.Orders.{bytes_total}
use Rattle.rule_values.specs.Heads.{front}
use Rattle.repl_data.proofs.ClosedLaws.{no_number_below}

equal_not_less : Equal ≡ Less → ⊥
equal_not_less e = cc

greater_not_less : Greater ≡ Less → ⊥
greater_not_less e = cc

none_below : (key : List ℕ) → bytes_cmp key [] ≡ Less → ⊥
none_below [] h = equal_not_less h
none_below (b ∷ key) h = greater_not_less h

below_by_front : (n : ℕ) (a b : List ℕ) → bytes_cmp (front n a) (front n b) ≡ Less → bytes_cmp a b ≡ Less
below_by_front zero a b h = absurd (equal_not_less h)
below_by_front (suc n) [] [] h = below_by_front n [] [] h
below_by_front (suc n) [] (y ∷ b) h = refl
below_by_front (suc n) (x ∷ a) [] h = by (nat_cmp x 0) refl h (below_by_front n a [])
  where
    by : (o : Ordering) → nat_cmp x 0 ≡ o → ordering_then o (bytes_cmp (front n a) (front n [])) ≡ Less → (bytes_cmp (front n a) (front n []) ≡ Less → bytes_cmp a [] ≡ Less) → Greater ≡ Less
    by Less e h more = absurd (no_number_below x e)
    by Equal e h more = absurd (none_below a (more h))
    by Greater e h more = h
below_by_front (suc n) (x ∷ a) (y ∷ b) h = by (nat_cmp x y) h (below_by_front n a b)
  where
    by : (o : Ordering) → ordering_then o (bytes_cmp (front n a) (front n b)) ≡ Less → (bytes_cmp (front n a) (front n b) ≡ Less → bytes_cmp a b ≡ Less) → ordering_then o (bytes_cmp a b) ≡ Less
    by Less h more = refl
    by Equal h more = more h
    by Greater h more = h

pub told_by_fronts : (a b : List ℕ) → ordering_then (bytes_cmp (front 8 a) (front 8 b)) (bytes_cmp a b) ≡ bytes_cmp a b
told_by_fronts a b = by (bytes_cmp (front 8 a) (front 8 b)) refl
  where
    by : (o : Ordering) → bytes_cmp (front 8 a) (front 8 b) ≡ o → ordering_then o (bytes_cmp a b) ≡ bytes_cmp a b
    by Less e = sym (below_by_front 8 a b e)
    by Equal e = refl
    by Greater e =
        sym (bytes_total.antisymm a b ∙ ap ordering_reverse (below_by_front 8 b a (bytes_total.antisymm (front 8 b) (front 8 a) ∙ ap ordering_reverse e)))
