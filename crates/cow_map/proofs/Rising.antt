-- Rows in rising order, and where a key stands among them.
use Rattle.std.proofs.Common.{◌≡◌, ℕ, ◌+◌, ◌<◌, suc, false, List, [], ◌∷◌, ◌++◌, Ordering, length, take, drop, get_or, refl, sym, ap, ◌∙◌, subst, add-one}
use Rattle.std.specs.Cmp.{IsTotalOrder}
use Rattle.std.specs.List.{AllByRecursion}
use Rattle.std.specs.List.Sorted.{IsStrictlySortedBy}
use Rattle.std.specs.Map.{keys_of}
use Rattle.std.specs.Ordering.{is_lt, ordering_reverse}
use Rattle.std.specs.declared.cmp.Ordering.TheVariants.{Less, Equal, Greater}
use Rattle.std.proofs.lemmas.List.{take-append-drop, get_or_default}
use Rattle.std.proofs.Math.Seq.{drop-cons, take-suc}
use Rattle.cow_map.specs.Rows.{IsRising}
use Rattle.cow_map.specs.Places.{AreBelow, AreAbove, IsPlace}

pub all_map : {K : Type 0} (P Q : K → Type 0) → ((k : K) → Q k → P k) → (ks : List K) → AllByRecursion Q ks → AllByRecursion P ks
all_map P Q f [] h = tt
all_map P Q f (k ∷ ks) h = (f k h.0, all_map P Q f ks h.1)

module _ {K V : Type 0} (P : K → Type 0) where
  pub all_back : (xs ys : List (K × V)) → AllByRecursion P (keys_of (xs ++ ys)) → AllByRecursion P (keys_of ys)
  all_back [] ys h = h
  all_back (x ∷ xs) ys h = all_back xs ys h.1

  pub all_front : (xs ys : List (K × V)) → AllByRecursion P (keys_of (xs ++ ys)) → AllByRecursion P (keys_of xs)
  all_front [] ys h = tt
  all_front (x ∷ xs) ys h = (h.0, all_front xs ys h.1)

  pub all_both : (xs ys : List (K × V)) → AllByRecursion P (keys_of xs) → AllByRecursion P (keys_of ys) → AllByRecursion P (keys_of (xs ++ ys))
  all_both [] ys h i = i
  all_both (x ∷ xs) ys h i = (h.0, all_both xs ys h.1 i)

-- a list, cut before and after a place
pub drop_at : {X : Type 0} (xs : List X) (i : ℕ) (x : X) → i < length xs → x ≡ get_or xs i x → drop i xs ≡ x ∷ drop (suc i) xs
drop_at xs i x l e = drop-cons xs i x l ∙ ap (λ z. z ∷ drop (suc i) xs) (sym e)

pub parted_at : {X : Type 0} (xs : List X) (i : ℕ) (x : X) → i < length xs → x ≡ get_or xs i x → xs ≡ take i xs ++ (x ∷ drop (suc i) xs)
parted_at xs i x l e = sym (take-append-drop i xs) ∙ ap (λ ys. take i xs ++ ys) (drop_at xs i x l e)

pub take_at : {X : Type 0} (xs : List X) (i : ℕ) (x : X) → i < length xs → x ≡ get_or xs i x → take (suc i) xs ≡ take i xs ++ (x ∷ [])
take_at xs i x l e = take-suc xs i x l ∙ ap (λ z. take i xs ++ (z ∷ [])) (sym e)

pub rising_none : {K : Type 0} (V : Type 0) (cmp : K → K → Ordering) → IsRising {V = V} cmp []
unfolding IsStrictlySortedBy
rising_none V cmp = tt

module _ {K : Type 0} {cmp : K → K → Ordering} (o : IsTotalOrder cmp) where
  pub one_below : (key x y : K) → cmp x y ≡ Less → is_lt (cmp key y) ≡ false → cmp key x ≡ Greater
  one_below key x y h f = by (cmp key y) refl
    where
      back : cmp y x ≡ Greater
      back = o.antisymm y x ∙ ap ordering_reverse h

      by : (r : Ordering) → r ≡ cmp key y → cmp key x ≡ Greater
      by Less e = (let t : is_lt Less ≡ false = subst (λ z. is_lt z ≡ false) (sym e) f in absurd cc)
      by Equal e = o.congr key y x (sym e) ∙ back
      by Greater e =
          let low : cmp y key ≡ Less = o.antisymm y key ∙ ap ordering_reverse (sym e) in
          o.antisymm key x ∙ ap ordering_reverse (o.trans x y key h low)

module _ {K V : Type 0} (cmp : K → K → Ordering) where
  pub rising_front : (xs ys : List (K × V)) → IsRising cmp (xs ++ ys) → IsRising cmp xs
  unfolding IsStrictlySortedBy
  rising_front [] ys h = tt
  rising_front (x ∷ xs) ys h = (all_front (λ k. cmp x.0 k ≡ Less) xs ys h.0, rising_front xs ys h.1)

  pub rising_back : (xs ys : List (K × V)) → IsRising cmp (xs ++ ys) → IsRising cmp ys
  unfolding IsStrictlySortedBy
  rising_back [] ys h = h
  rising_back (x ∷ xs) ys h = rising_back xs ys h.1

  -- each row in front of a row is below it
  pub below_seam : (P : K → Type 0) (xs : List (K × V)) (y : K × V) (ys : List (K × V)) → IsRising cmp (xs ++ (y ∷ ys)) → ((k : K) → cmp k y.0 ≡ Less → P k) → AllByRecursion P (keys_of xs)
  unfolding IsStrictlySortedBy
  below_seam P [] y ys h f = tt
  below_seam P (x ∷ xs) y ys h f = (f x.0 (all_back (λ k. cmp x.0 k ≡ Less) xs (y ∷ ys) h.0).0, below_seam P xs y ys h.1 f)

  -- each row behind a row is above it
  pub above_first : (y : K × V) (ys : List (K × V)) → IsRising cmp (y ∷ ys) → AllByRecursion (λ k. cmp y.0 k ≡ Less) (keys_of ys)
  unfolding IsStrictlySortedBy
  above_first y ys h = h.0

  module _ (o : IsTotalOrder cmp) where
    -- a key that is not below a row is above those in front of it
    pub below_from_seam : (key : K) (xs : List (K × V)) (y : K × V) (ys : List (K × V)) → IsRising cmp (xs ++ (y ∷ ys)) → is_lt (cmp key y.0) ≡ false → AreBelow cmp xs key
    below_from_seam key xs y ys h f = below_seam (λ k. cmp key k ≡ Greater) xs y ys h (λ k l. one_below o key k y.0 l f)

    -- a key that is below a row is below those behind it
    pub above_from_first : (key : K) (y : K × V) (ys : List (K × V)) → IsRising cmp (y ∷ ys) → cmp key y.0 ≡ Less → AreAbove cmp (y ∷ ys) key
    above_from_first key y ys h l = (l, all_map (λ k. cmp key k ≡ Less) (λ k. cmp y.0 k ≡ Less) (λ k m. o.trans key y.0 k l m) (keys_of ys) (above_first y ys h))

    -- a key that is that of a row is below those behind it
    pub above_from_same : (key : K) (y : K × V) (ys : List (K × V)) → IsRising cmp (y ∷ ys) → cmp key y.0 ≡ Equal → AreAbove cmp ys key
    above_from_same key y ys h l = all_map (λ k. cmp key k ≡ Less) (λ k. cmp y.0 k ≡ Less) (λ k m. o.congr key y.0 k l ∙ m) (keys_of ys) (above_first y ys h)

    -- a step of a search by halves: what lies on either side of the row that was looked at
    pub step_less : (rows : List (K × V)) (key : K) (m : ℕ) (row : K × V) → IsRising cmp rows → m < length rows → row ≡ get_or rows m row → cmp key row.0 ≡ Less → AreAbove cmp (drop m rows) key
    step_less rows key m row h l e f =
        let rising : IsRising cmp (drop m rows) = rising_back (take m rows) (drop m rows) (subst (λ z. IsRising cmp z) (sym (take-append-drop m rows)) h) in
        let at = drop_at rows m row l e in
        subst (λ z. AreAbove cmp z key) (sym at) (above_from_first key row (drop (suc m) rows) (subst (λ z. IsRising cmp z) at rising) f)

    pub step_not_less : (rows : List (K × V)) (key : K) (m : ℕ) (row : K × V) → IsRising cmp rows → m < length rows → row ≡ get_or rows m row → is_lt (cmp key row.0) ≡ false → AreBelow cmp (take m rows) key
    step_not_less rows key m row h l e f =
        below_from_seam key (take m rows) row (drop (suc m) rows) (subst (λ z. IsRising cmp z) (parted_at rows m row l e) h) f

    pub step_greater : (rows : List (K × V)) (key : K) (m : ℕ) (row : K × V) → IsRising cmp rows → m < length rows → row ≡ get_or rows m row → cmp key row.0 ≡ Greater → AreBelow cmp (take (m + 1) rows) key
    step_greater rows key m row h l e f =
        let front = step_not_less rows key m row h l e (ap is_lt f) in
        let both : AreBelow cmp (take m rows ++ (row ∷ [])) key = all_both (λ k. cmp key k ≡ Greater) (take m rows) (row ∷ []) front (f, tt) in
        rw (add-one, take_at rows m row l e) both

    pub step_equal : (rows : List (K × V)) (key : K) (m : ℕ) (row : K × V) → IsRising cmp rows → m < length rows → row ≡ get_or rows m row → cmp key row.0 ≡ Equal → IsPlace cmp rows key m
    step_equal rows key m row h l e f =
        let front = step_not_less rows key m row h l e (ap is_lt f) in
        (l, front, λ d. ap (λ (z : K × V). cmp key z.0) (get_or_default rows m d row l ∙ sym e) ∙ f)
