-- What a map answers at each key after a change.
use Rattle.std.proofs.Common.{◌≡◌, Bool, true, false, cond, List, [], ◌∷◌, Option, Some, None, Ordering, refl, sym, ap, ◌∙◌}
use Rattle.std.specs.Cmp.{IsTotalOrder, eq_by_cmp_equiv}
use Rattle.std.specs.Map.{remove_entry}
use Rattle.std.specs.BTreeMap.{insert_entry, is_at}
use Rattle.std.specs.Ordering.{is_eq, match_ordering, ordering_reverse}
use Rattle.std.specs.declared.cmp.Ordering.TheVariants.{Less, Equal, Greater}
use Rattle.std.proofs.lemmas.Map.{lookup-remove_entry}
use Rattle.std.proofs.lemmas.Map.Keys.{IsDistinct-from_sorted}
use Rattle.cow_map.specs.Rows.{IsRising, value_at}

equal : (a : Ordering) → is_eq a ≡ true → a ≡ Equal
equal Less h = absurd cc
equal Equal h = refl
equal Greater h = absurd cc

same_back : {K : Type 0} {cmp : K → K → Ordering} → IsTotalOrder cmp → (x y : K) → is_eq (cmp x y) ≡ is_eq (cmp y x)
same_back {cmp = cmp} o x y = ap is_eq (o.antisymm x y) ∙ by (cmp y x)
  where
    by : (a : Ordering) → is_eq (ordering_reverse a) ≡ is_eq a
    by Less = refl
    by Equal = refl
    by Greater = refl

module _ {K V : Type 0} {cmp : K → K → Ordering} (o : IsTotalOrder cmp) where
  pub value_at-insert_entry : (rows : List (K × V)) (key : K) (v : V) (q : K) → value_at cmp (insert_entry cmp rows key v) q ≡ cond (is_eq (cmp key q)) (Some v) (value_at cmp rows q)
  value_at-insert_entry [] key v q = ap (λ b. cond b (Some v) None) (same_back o q key)
  value_at-insert_entry (r ∷ rows) key v q = by (value_at-insert_entry rows key v q) (cmp key r.0) refl
    where
      rest : Option V
      rest = cond (is_eq (cmp q r.0)) (Some r.1) (value_at cmp rows q)

      twice : (b : Bool) → cond b (Some v) (value_at cmp rows q) ≡ cond b (Some v) (cond b (Some r.1) (value_at cmp rows q))
      twice true = refl
      twice false = refl

      -- the key is that of the query, and that of the row: not both
      swapped : (a b : Bool) → (a ≡ true → b ≡ true → ⊥) → cond b (Some r.1) (cond a (Some v) (value_at cmp rows q)) ≡ cond a (Some v) (cond b (Some r.1) (value_at cmp rows q))
      swapped true true f = absurd (f refl refl)
      swapped true false f = refl
      swapped false b f = refl

      by : value_at cmp (insert_entry cmp rows key v) q ≡ cond (is_eq (cmp key q)) (Some v) (value_at cmp rows q) → (a : Ordering) → cmp key r.0 ≡ a → value_at cmp (match_ordering a ((key, v) ∷ (r ∷ rows)) ((r.0, v) ∷ rows) (r ∷ insert_entry cmp rows key v)) q ≡ cond (is_eq (cmp key q)) (Some v) rest
      by i Less e = ap (λ b. cond b (Some v) rest) (same_back o q key)
      by i Equal e =
          let same : is_eq (cmp q r.0) ≡ is_eq (cmp key q) = same_back o q r.0 ∙ ap is_eq (sym (o.congr key r.0 q e)) in
          ap (λ b. cond b (Some v) (value_at cmp rows q)) same ∙ twice (is_eq (cmp key q)) ∙ ap (λ b. cond (is_eq (cmp key q)) (Some v) (cond b (Some r.1) (value_at cmp rows q))) (sym same)
      by i Greater e =
          ap (λ z. cond (is_eq (cmp q r.0)) (Some r.1) z) i
          ∙ swapped (is_eq (cmp key q)) (is_eq (cmp q r.0)) (λ g h. let t : cmp key r.0 ≡ Equal = o.congr key q r.0 (equal (cmp key q) g) ∙ equal (cmp q r.0) h in let no : Greater ≡ Equal = sym e ∙ t in absurd cc)

  pub value_at-remove_entry : (rows : List (K × V)) (key q : K) → IsRising cmp rows → value_at cmp (remove_entry (is_at (cmp key)) rows) q ≡ cond (is_eq (cmp key q)) None (value_at cmp rows q)
  value_at-remove_entry rows key q h =
      lookup-remove_entry (eq_by_cmp_equiv o) (is_at (cmp key)) (λ x y e. ap is_eq (o.congr key x y (equal (cmp key x) e))) q rows (IsDistinct-from_sorted cmp _ h)
