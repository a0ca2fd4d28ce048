-- Rows that get a value at a key, lose the row of a key, or are asked for a key.
use Rattle.std.proofs.Common.{◌≡◌, ℕ, suc, Bool, true, false, cond, List, [], ◌∷◌, ◌++◌, Some, None, Ordering, take, drop, get_or, refl, sym, ap, ◌∙◌, arith}
use Rattle.std.specs.Cmp.{IsTotalOrder}
use Rattle.std.specs.List.{AllByRecursion}
use Rattle.std.specs.List.Sorted.{IsStrictlySortedBy}
use Rattle.std.specs.Map.{keys_of, remove_entry}
use Rattle.std.specs.BTreeMap.{insert_entry, is_at}
use Rattle.std.specs.Ordering.{is_eq, match_ordering, ordering_reverse}
use Rattle.std.specs.declared.cmp.Ordering.TheVariants.{Less, Equal, Greater}
use Rattle.std.proofs.lemmas.List.{take-append-drop, get_or_default}
use Rattle.cow_map.specs.Rows.{IsRising, value_at}
use Rattle.cow_map.specs.Places.{AreBelow, AreAbove, IsPlace, IsGap}
use Rattle.cow_map.proofs.Rising.{parted_at, above_from_first}

module _ {K V : Type 0} (cmp : K → K → Ordering) (key : K) where
  -- ---- rows in front, whose keys are below, and rows behind, whose keys are above
  pub insert_front : (v : V) (xs ys : List (K × V)) → AreBelow cmp xs key → insert_entry cmp (xs ++ ys) key v ≡ xs ++ insert_entry cmp ys key v
  insert_front v [] ys h = refl
  insert_front v (x ∷ xs) ys h =
      ap (λ o. match_ordering o ((key, v) ∷ (x ∷ (xs ++ ys))) ((x.0, v) ∷ (xs ++ ys)) (x ∷ insert_entry cmp (xs ++ ys) key v)) h.0 ∙ ap (λ z. x ∷ z) (insert_front v xs ys h.1)

  pub insert_above : (v : V) (zs : List (K × V)) → AreAbove cmp zs key → insert_entry cmp zs key v ≡ (key, v) ∷ zs
  insert_above v [] h = refl
  insert_above v (z ∷ zs) h = ap (λ o. match_ordering o ((key, v) ∷ (z ∷ zs)) ((z.0, v) ∷ zs) (z ∷ insert_entry cmp zs key v)) h.0

  pub insert_back : (v : V) (ys zs : List (K × V)) → AreAbove cmp zs key → insert_entry cmp (ys ++ zs) key v ≡ insert_entry cmp ys key v ++ zs
  insert_back v [] zs h = insert_above v zs h
  insert_back v (y ∷ ys) zs h = by (insert_back v ys zs h) (cmp key y.0)
    where
      by : insert_entry cmp (ys ++ zs) key v ≡ insert_entry cmp ys key v ++ zs → (o : Ordering) → match_ordering o ((key, v) ∷ (y ∷ (ys ++ zs))) ((y.0, v) ∷ (ys ++ zs)) (y ∷ insert_entry cmp (ys ++ zs) key v) ≡ match_ordering o ((key, v) ∷ (y ∷ ys)) ((y.0, v) ∷ ys) (y ∷ insert_entry cmp ys key v) ++ zs
      by i Less = refl
      by i Equal = refl
      by i Greater = ap (λ z. y ∷ z) i

  pub insert_same : (v : V) (y : K × V) (ys : List (K × V)) → cmp key y.0 ≡ Equal → insert_entry cmp (y ∷ ys) key v ≡ (y.0, v) ∷ ys
  insert_same v y ys h = ap (λ o. match_ordering o ((key, v) ∷ (y ∷ ys)) ((y.0, v) ∷ ys) (y ∷ insert_entry cmp ys key v)) h

  pub lookup_front : (xs ys : List (K × V)) → AreBelow cmp xs key → value_at cmp (xs ++ ys) key ≡ value_at cmp ys key
  lookup_front [] ys h = refl
  lookup_front (x ∷ xs) ys h = ap (λ o. cond (is_eq o) (Some x.1) (value_at cmp (xs ++ ys) key)) h.0 ∙ lookup_front xs ys h.1

  pub lookup_above : (zs : List (K × V)) → AreAbove cmp zs key → value_at cmp zs key ≡ None
  lookup_above [] h = refl
  lookup_above (z ∷ zs) h = ap (λ o. cond (is_eq o) (Some z.1) (value_at cmp zs key)) h.0 ∙ lookup_above zs h.1

  pub lookup_back : (ys zs : List (K × V)) → AreAbove cmp zs key → value_at cmp (ys ++ zs) key ≡ value_at cmp ys key
  lookup_back [] zs h = lookup_above zs h
  lookup_back (y ∷ ys) zs h = ap (λ z. cond (is_eq (cmp key y.0)) (Some y.1) z) (lookup_back ys zs h)

  pub remove_front : (xs ys : List (K × V)) → AreBelow cmp xs key → remove_entry (is_at (cmp key)) (xs ++ ys) ≡ xs ++ remove_entry (is_at (cmp key)) ys
  remove_front [] ys h = refl
  remove_front (x ∷ xs) ys h =
      ap (λ o. cond (is_eq o) (xs ++ ys) (x ∷ remove_entry (is_at (cmp key)) (xs ++ ys))) h.0 ∙ ap (λ z. x ∷ z) (remove_front xs ys h.1)

  pub remove_above : (zs : List (K × V)) → AreAbove cmp zs key → remove_entry (is_at (cmp key)) zs ≡ zs
  remove_above [] h = refl
  remove_above (z ∷ zs) h = ap (λ o. cond (is_eq o) zs (z ∷ remove_entry (is_at (cmp key)) zs)) h.0 ∙ ap (λ w. z ∷ w) (remove_above zs h.1)

  pub remove_back : (ys zs : List (K × V)) → AreAbove cmp zs key → remove_entry (is_at (cmp key)) (ys ++ zs) ≡ remove_entry (is_at (cmp key)) ys ++ zs
  remove_back [] zs h = remove_above zs h
  remove_back (y ∷ ys) zs h = by (remove_back ys zs h) (is_eq (cmp key y.0))
    where
      by : remove_entry (is_at (cmp key)) (ys ++ zs) ≡ remove_entry (is_at (cmp key)) ys ++ zs → (b : Bool) → cond b (ys ++ zs) (y ∷ remove_entry (is_at (cmp key)) (ys ++ zs)) ≡ cond b ys (y ∷ remove_entry (is_at (cmp key)) ys) ++ zs
      by i true = refl
      by i false = ap (λ z. y ∷ z) i

  -- ---- rows between those in front and those behind
  pub insert_between : (v : V) (xs ys zs : List (K × V)) → AreBelow cmp xs key → AreAbove cmp zs key → insert_entry cmp (xs ++ (ys ++ zs)) key v ≡ xs ++ (insert_entry cmp ys key v ++ zs)
  insert_between v xs ys zs f b = insert_front v xs (ys ++ zs) f ∙ ap (λ w. xs ++ w) (insert_back v ys zs b)

  pub lookup_between : (xs ys zs : List (K × V)) → AreBelow cmp xs key → AreAbove cmp zs key → value_at cmp (xs ++ (ys ++ zs)) key ≡ value_at cmp ys key
  lookup_between xs ys zs f b = lookup_front xs (ys ++ zs) f ∙ lookup_back ys zs b

  pub remove_between : (xs ys zs : List (K × V)) → AreBelow cmp xs key → AreAbove cmp zs key → remove_entry (is_at (cmp key)) (xs ++ (ys ++ zs)) ≡ xs ++ (remove_entry (is_at (cmp key)) ys ++ zs)
  remove_between xs ys zs f b = remove_front xs (ys ++ zs) f ∙ ap (λ w. xs ++ w) (remove_back ys zs b)

  -- ---- at the place of the key, and where it would stand
  same_key : (rows : List (K × V)) (at : ℕ) (row : K × V) → IsPlace cmp rows key at → row ≡ get_or rows at row → cmp key row.0 ≡ Equal
  same_key rows at row p e = ap (λ (z : K × V). cmp key z.0) e ∙ p.2 row

  pub insert_at_place : (v : V) (rows : List (K × V)) (at : ℕ) (row : K × V) → IsPlace cmp rows key at → row ≡ get_or rows at row → insert_entry cmp rows key v ≡ take at rows ++ ((row.0, v) ∷ drop (suc at) rows)
  insert_at_place v rows at row p e =
      ap (λ z. insert_entry cmp z key v) (parted_at rows at row p.0 e) ∙ insert_front v (take at rows) (row ∷ drop (suc at) rows) p.1
      ∙ ap (λ z. take at rows ++ z) (insert_same v row (drop (suc at) rows) (same_key rows at row p e))

  pub insert_at_gap : (v : V) (rows : List (K × V)) (at : ℕ) → IsGap cmp rows key at → insert_entry cmp rows key v ≡ take at rows ++ ((key, v) ∷ drop at rows)
  insert_at_gap v rows at p =
      ap (λ z. insert_entry cmp z key v) (sym (take-append-drop at rows)) ∙ insert_front v (take at rows) (drop at rows) p.1
      ∙ ap (λ z. take at rows ++ z) (insert_above v (drop at rows) p.2)

  pub lookup_at_place : (rows : List (K × V)) (at : ℕ) (row : K × V) → IsPlace cmp rows key at → row ≡ get_or rows at row → value_at cmp rows key ≡ Some row.1
  lookup_at_place rows at row p e =
      ap (λ z. value_at cmp z key) (parted_at rows at row p.0 e) ∙ lookup_front (take at rows) (row ∷ drop (suc at) rows) p.1
      ∙ ap (λ o. cond (is_eq o) (Some row.1) (value_at cmp (drop (suc at) rows) key)) (same_key rows at row p e)

  pub lookup_at_gap : (rows : List (K × V)) (at : ℕ) → IsGap cmp rows key at → value_at cmp rows key ≡ None
  lookup_at_gap rows at p =
      ap (λ z. value_at cmp z key) (sym (take-append-drop at rows)) ∙ lookup_front (take at rows) (drop at rows) p.1 ∙ lookup_above (drop at rows) p.2

  pub remove_at_place : (rows : List (K × V)) (at : ℕ) → IsPlace cmp rows key at → remove_entry (is_at (cmp key)) rows ≡ take at rows ++ drop (suc at) rows
  remove_at_place [] at p = absurd (omega arith)
  remove_at_place (r ∷ rs) at p =
      let row = get_or (r ∷ rs) at r in
      let e : row ≡ get_or (r ∷ rs) at row = get_or_default (r ∷ rs) at r row p.0 in
      ap (λ z. remove_entry (is_at (cmp key)) z) (parted_at (r ∷ rs) at row p.0 e) ∙ remove_front (take at (r ∷ rs)) (row ∷ drop (suc at) (r ∷ rs)) p.1
      ∙ ap (λ o. take at (r ∷ rs) ++ cond (is_eq o) (drop (suc at) (r ∷ rs)) (row ∷ remove_entry (is_at (cmp key)) (drop (suc at) (r ∷ rs)))) (same_key (r ∷ rs) at row p e)

  pub remove_at_gap : (rows : List (K × V)) (at : ℕ) → IsGap cmp rows key at → remove_entry (is_at (cmp key)) rows ≡ rows
  remove_at_gap rows at p =
      ap (λ z. remove_entry (is_at (cmp key)) z) (sym (take-append-drop at rows)) ∙ remove_front (take at rows) (drop at rows) p.1
      ∙ ap (λ z. take at rows ++ z) (remove_above (drop at rows) p.2) ∙ take-append-drop at rows

  -- ---- the order stays
  all_insert : (P : K → Type 0) (v : V) (rows : List (K × V)) → P key → AllByRecursion P (keys_of rows) → AllByRecursion P (keys_of (insert_entry cmp rows key v))
  all_insert P v [] p h = (p, tt)
  all_insert P v (r ∷ rows) p h = by (all_insert P v rows p h.1) (cmp key r.0)
    where
      by : AllByRecursion P (keys_of (insert_entry cmp rows key v)) → (o : Ordering) → AllByRecursion P (keys_of (match_ordering o ((key, v) ∷ (r ∷ rows)) ((r.0, v) ∷ rows) (r ∷ insert_entry cmp rows key v)))
      by i Less = (p, h)
      by i Equal = h
      by i Greater = (h.0, i)

  all_remove : (P : K → Type 0) (rows : List (K × V)) → AllByRecursion P (keys_of rows) → AllByRecursion P (keys_of (remove_entry (is_at (cmp key)) rows))
  all_remove P [] h = tt
  all_remove P (r ∷ rows) h = by (all_remove P rows h.1) (is_eq (cmp key r.0))
    where
      by : AllByRecursion P (keys_of (remove_entry (is_at (cmp key)) rows)) → (b : Bool) → AllByRecursion P (keys_of (cond b rows (r ∷ remove_entry (is_at (cmp key)) rows)))
      by i true = h.1
      by i false = (h.0, i)

  pub rising_remove : (rows : List (K × V)) → IsRising cmp rows → IsRising cmp (remove_entry (is_at (cmp key)) rows)
  unfolding IsStrictlySortedBy
  rising_remove [] h = tt
  rising_remove (r ∷ rows) h = by (rising_remove rows h.1) (is_eq (cmp key r.0))
    where
      by : IsStrictlySortedBy cmp (keys_of (remove_entry (is_at (cmp key)) rows)) → (b : Bool) → IsStrictlySortedBy cmp (keys_of (cond b rows (r ∷ remove_entry (is_at (cmp key)) rows)))
      by i true = h.1
      by i false = (all_remove (λ k. cmp r.0 k ≡ Less) rows h.0, i)

  module _ (o : IsTotalOrder cmp) where
    pub rising_insert : (v : V) (rows : List (K × V)) → IsRising cmp rows → IsRising cmp (insert_entry cmp rows key v)
    unfolding IsStrictlySortedBy
    rising_insert v [] h = (tt, tt)
    rising_insert v (r ∷ rows) h = by (rising_insert v rows h.1) (cmp key r.0) refl
      where
        by : IsStrictlySortedBy cmp (keys_of (insert_entry cmp rows key v)) → (a : Ordering) → cmp key r.0 ≡ a → IsStrictlySortedBy cmp (keys_of (match_ordering a ((key, v) ∷ (r ∷ rows)) ((r.0, v) ∷ rows) (r ∷ insert_entry cmp rows key v)))
        by i Less e = (above_from_first cmp o key r rows h e, h)
        by i Equal e = h
        by i Greater e = (all_insert (λ k. cmp r.0 k ≡ Less) v rows (o.antisymm r.0 key ∙ ap ordering_reverse e) h.0, i)
