-- One more element, as at a step of a loop, and the same from the last element on.
use Rattle.std.proofs.Common.{◌≡◌, ℕ, suc, ◌+◌, ◌<◌, Bool, true, false, cond, List, [], ◌∷◌, ◌++◌, map, length, get_or, take, drop, set, add-one, refl, ap, sym, ◌∙◌, append_assoc, append-nil, length-append, arith}
use Rattle.std.specs.Prelude.{filter, flat_map, insert}
use Rattle.std.proofs.lemmas.List.{take_more, set_split}
use Rattle.std.proofs.Math.Seq.{drop-cons}
use Rattle.std.proofs.lemmas.List.Concat.{flat_map-append}
use Rattle.std.specs.List.{AllByRecursion}
use Rattle.std.specs.Cmp.Lexicographic.{slice_cmp}
use Rattle.std.specs.Ordering.{ordering_then}
use Rattle.std.specs.declared.cmp.Ordering.{Ordering}
use Rattle.std.specs.declared.cmp.Ordering.TheVariants.{Less, Equal, Greater}
use Rattle.repl_data.specs.Order.{foldr, put_by, in_order_by, by_order}

-- ---- small laws of lists, for every crate

pub map_same : {X : Type 0} (xs : List X) → map (λ x. x) xs ≡ xs
map_same [] = refl
map_same (x ∷ xs) = ap (λ r. x ∷ r) (map_same xs)

pub map_map : {X Y Z : Type 0} (f : Y → Z) (g : X → Y) (xs : List X) → map f (map g xs) ≡ map (λ x. f (g x)) xs
map_map f g [] = refl
map_map f g (x ∷ xs) = ap (λ r. f (g x) ∷ r) (map_map f g xs)

pub all_append : {X : Type 0} (P : X → Type 0) (xs ys : List X) → AllByRecursion P xs → AllByRecursion P ys → AllByRecursion P (xs ++ ys)
all_append P [] ys h g = g
all_append P (x ∷ xs) ys h g = (h.0, all_append P xs ys h.1 g)

pub all_map : {X Y : Type 0} (P : Y → Type 0) (f : X → Y) (xs : List X) → AllByRecursion (λ x. P (f x)) xs → AllByRecursion P (map f xs)
all_map P f [] h = tt
all_map P f (x ∷ xs) h = (h.0, all_map P f xs h.1)

pub all_mono : {X : Type 0} (P Q : X → Type 0) → ((x : X) → P x → Q x) → (xs : List X) → AllByRecursion P xs → AllByRecursion Q xs
all_mono P Q f [] h = tt
all_mono P Q f (x ∷ xs) h = (f x h.0, all_mono P Q f xs h.1)

pub all_filter : {X : Type 0} (P : X → Type 0) (q : X → Bool) (xs : List X) → AllByRecursion P xs → AllByRecursion P (filter q xs)
all_filter P q [] h = tt
all_filter P q (x ∷ xs) h = by (q x) (all_filter P q xs h.1)
  where
    by : (b : Bool) → AllByRecursion P (filter q xs) → AllByRecursion P (cond b (x ∷ filter q xs) (filter q xs))
    by true g = (h.0, g)
    by false g = g

-- what adds nothing to a length is empty
pub empty_rest : {X : Type 0} (xs more : List X) → length xs ≡ length (xs ++ more) → more ≡ []
empty_rest xs [] e = refl
empty_rest xs (m ∷ more) e = absurd (omega (arith, length-append xs (m ∷ more)))

-- ---- one more element

module _ {X Y : Type 0} where
  pub map_append : (f : X → Y) (xs ys : List X) → map f (xs ++ ys) ≡ map f xs ++ map f ys
  map_append f [] ys = refl
  map_append f (x ∷ xs) ys = ap (λ r. f x ∷ r) (map_append f xs ys)

  pub map_more : (f : X → Y) (xs : List X) (i : ℕ) (d : X) → i < length xs → map f (take (i + 1) xs) ≡ map f (take i xs) ++ f (get_or xs i d) ∷ []
  map_more f xs i d l = ap (map f) (take_more xs i d l) ∙ map_append f (take i xs) (get_or xs i d ∷ [])

  pub flat_map_more : (f : X → List Y) (xs : List X) (i : ℕ) (d : X) → i < length xs → flat_map f (take (i + 1) xs) ≡ flat_map f (take i xs) ++ f (get_or xs i d)
  flat_map_more f xs i d l = ap (flat_map f) (take_more xs i d l) ∙ flat_map-append f (take i xs) (get_or xs i d ∷ []) ∙ ap (λ r. flat_map f (take i xs) ++ r) (append-nil (f (get_or xs i d)))

module _ {X : Type 0} where
  pub filter_append : (p : X → Bool) (xs ys : List X) → filter p (xs ++ ys) ≡ filter p xs ++ filter p ys
  filter_append p [] ys = refl
  filter_append p (x ∷ xs) ys = by (p x) (filter_append p xs ys)
    where
      by : (b : Bool) → filter p (xs ++ ys) ≡ filter p xs ++ filter p ys → cond b (x ∷ filter p (xs ++ ys)) (filter p (xs ++ ys)) ≡ cond b (x ∷ filter p xs) (filter p xs) ++ filter p ys
      by true e = ap (λ r. x ∷ r) e
      by false e = e

  pub filter_more_yes : (p : X → Bool) (xs : List X) (i : ℕ) (d : X) → i < length xs → p (get_or xs i d) ≡ true → filter p (take (i + 1) xs) ≡ filter p (take i xs) ++ get_or xs i d ∷ []
  filter_more_yes p xs i d l e =
      ap (filter p) (take_more xs i d l) ∙ filter_append p (take i xs) (get_or xs i d ∷ [])
      ∙ ap (λ b. filter p (take i xs) ++ cond b (get_or xs i d ∷ []) []) e

  pub filter_more_no : (p : X → Bool) (xs : List X) (i : ℕ) (d : X) → i < length xs → p (get_or xs i d) ≡ false → filter p (take (i + 1) xs) ≡ filter p (take i xs)
  filter_more_no p xs i d l e =
      ap (filter p) (take_more xs i d l) ∙ filter_append p (take i xs) (get_or xs i d ∷ [])
      ∙ ap (λ b. filter p (take i xs) ++ cond b (get_or xs i d ∷ []) []) e ∙ append-nil (filter p (take i xs))

  -- a filter takes the element or not
  pub filter_more : (p : X → Bool) (xs : List X) (i : ℕ) (d : X) → i < length xs → filter p (take (i + 1) xs) ≡ filter p (take i xs) ++ cond (p (get_or xs i d)) (get_or xs i d ∷ []) []
  filter_more p xs i d l = ap (filter p) (take_more xs i d l) ∙ filter_append p (take i xs) (get_or xs i d ∷ [])

module _ {X Y : Type 0} where
  pub map_filter_more : (g : X → Y) (p : X → Bool) (xs : List X) (i : ℕ) (d : X) → i < length xs → map g (filter p (take (i + 1) xs)) ≡ map g (filter p (take i xs)) ++ cond (p (get_or xs i d)) (g (get_or xs i d) ∷ []) []
  map_filter_more g p xs i d l =
      ap (λ r. map g (filter p r)) (take_more xs i d l)
      ∙ ap (map g) (filter_append p (take i xs) (get_or xs i d ∷ []))
      ∙ map_append g (filter p (take i xs)) (cond (p (get_or xs i d)) (get_or xs i d ∷ []) [])
      ∙ ap (λ r. map g (filter p (take i xs)) ++ r) (by (p (get_or xs i d)))
    where
      by : (b : Bool) → map g (cond b (get_or xs i d ∷ []) []) ≡ cond b (g (get_or xs i d) ∷ []) []
      by true = refl
      by false = refl

module _ {X Y Z : Type 0} where
  pub map_map_more : (f : Y → Z) (h : X → Y) (xs : List X) (i : ℕ) (d : X) → i < length xs → map f (map h (take (i + 1) xs)) ≡ map f (map h (take i xs)) ++ f (h (get_or xs i d)) ∷ []
  map_map_more f h xs i d l = ap (map f) (map_more h xs i d l) ∙ map_append f (map h (take i xs)) (h (get_or xs i d) ∷ [])

  pub flat_map_map_more : (f : Y → List Z) (h : X → Y) (xs : List X) (i : ℕ) (d : X) → i < length xs → flat_map f (map h (take (i + 1) xs)) ≡ flat_map f (map h (take i xs)) ++ f (h (get_or xs i d))
  flat_map_map_more f h xs i d l = ap (flat_map f) (map_more h xs i d l) ∙ flat_map-append f (map h (take i xs)) (h (get_or xs i d) ∷ []) ∙ ap (λ r. flat_map f (map h (take i xs)) ++ r) (append-nil (f (h (get_or xs i d))))

module _ {X Y : Type 0} where
  pub filter_map_more : (p : Y → Bool) (h : X → Y) (xs : List X) (i : ℕ) (d : X) → i < length xs → filter p (map h (take (i + 1) xs)) ≡ filter p (map h (take i xs)) ++ cond (p (h (get_or xs i d))) (h (get_or xs i d) ∷ []) []
  filter_map_more p h xs i d l = ap (filter p) (map_more h xs i d l) ∙ filter_append p (map h (take i xs)) (h (get_or xs i d) ∷ [])

-- the last element is taken first
pub foldr_push : {X A : Type 0} (f : X → A → A) (a : A) (xs : List X) (x : X) → foldr f a (xs ++ x ∷ []) ≡ foldr f (f x a) xs
foldr_push f a [] x = refl
foldr_push f a (y ∷ xs) x = ap (f y) (foldr_push f a xs x)

-- an order of keys is an order of the items
pub put_by_order : {K X : Type 0} (key : X → K) (cmp : K → K → Ordering) (x : X) (ys : List X) → put_by key cmp x ys ≡ put_by (λ z. z) (λ a b. cmp (key a) (key b)) x ys
put_by_order key cmp x [] = refl
put_by_order key cmp x (y ∷ ys) = ap (λ r. by_order (cmp (key x) (key y)) (x ∷ y ∷ ys) (x ∷ ys) (y ∷ r)) (put_by_order key cmp x ys)

pub in_order_by_order : {K X : Type 0} (key : X → K) (cmp : K → K → Ordering) (xs : List X) → in_order_by key cmp xs ≡ in_order_by (λ z. z) (λ a b. cmp (key a) (key b)) xs
in_order_by_order key cmp [] = refl
in_order_by_order key cmp (x ∷ xs) =
    put_by_order key cmp x (in_order_by key cmp xs) ∙ ap (put_by (λ z. z) (λ a b. cmp (key a) (key b)) x) (in_order_by_order key cmp xs)

-- putting an item, as far as the place i
module _ {X : Type 0} (cmp : X → X → Ordering) (x : X) where
  abbrev pub put_in : List X → List X
  put_in ys = put_by (λ z. z) cmp x ys

  at_place : (ys : List X) (i : ℕ) (y : X) (o : Ordering) → i < length ys → y ≡ get_or ys i y → cmp x y ≡ o → put_in (drop i ys) ≡ by_order o (x ∷ y ∷ drop (i + 1) ys) (x ∷ drop (i + 1) ys) (y ∷ put_in (drop (i + 1) ys))
  at_place ys i y o l is e =
      ap put_in (drop-cons ys i y l ∙ ap (λ z. z ∷ drop (suc i) ys) (sym is) ∙ ap (λ n. y ∷ drop n ys) (sym (add-one i)))
      ∙ ap (λ p. by_order p (x ∷ y ∷ drop (i + 1) ys) (x ∷ drop (i + 1) ys) (y ∷ put_in (drop (i + 1) ys))) e

  pub put_equal : (ys : List X) (i : ℕ) (y : X) → put_in ys ≡ take i ys ++ put_in (drop i ys) → i < length ys → y ≡ get_or ys i y → cmp x y ≡ Equal → put_in ys ≡ set ys i x
  put_equal ys i y so l is e =
      so ∙ ap (λ r. take i ys ++ r) (at_place ys i y Equal l is e ∙ ap (λ n. x ∷ drop n ys) (add-one i)) ∙ sym (set_split ys i x l)

  pub put_less : (ys : List X) (i : ℕ) (y : X) → put_in ys ≡ take i ys ++ put_in (drop i ys) → i < length ys → y ≡ get_or ys i y → cmp x y ≡ Less → put_in ys ≡ insert ys i x
  put_less ys i y so l is e =
      so
      ∙ ap (λ r. take i ys ++ r) (at_place ys i y Less l is e ∙ ap (λ r. x ∷ r) (ap (λ n. y ∷ drop n ys) (add-one i) ∙ ap (λ z. z ∷ drop (suc i) ys) is ∙ sym (drop-cons ys i y l)))

  pub put_greater : (ys : List X) (i : ℕ) (y : X) → put_in ys ≡ take i ys ++ put_in (drop i ys) → i < length ys → y ≡ get_or ys i y → cmp x y ≡ Greater → put_in ys ≡ take (i + 1) ys ++ put_in (drop (i + 1) ys)
  put_greater ys i y so l is e =
      so ∙ ap (λ r. take i ys ++ r) (at_place ys i y Greater l is e)
      ∙ sym (append_assoc (take i ys) (y ∷ []) (put_in (drop (i + 1) ys)))
      ∙ ap (λ r. r ++ put_in (drop (i + 1) ys)) (ap (λ z. take i ys ++ z ∷ []) is ∙ sym (take_more ys i y l))

-- lists of keys compare as the items do
pub slice_cmp_map : {K X : Type 0} (key : X → K) (cmp : K → K → Ordering) (xs ys : List X) → slice_cmp cmp (map key xs) (map key ys) ≡ slice_cmp (λ a b. cmp (key a) (key b)) xs ys
slice_cmp_map key cmp [] [] = refl
slice_cmp_map key cmp [] (y ∷ ys) = refl
slice_cmp_map key cmp (x ∷ xs) [] = refl
slice_cmp_map key cmp (x ∷ xs) (y ∷ ys) = ap (ordering_then (cmp (key x) (key y))) (slice_cmp_map key cmp xs ys)

module _ {X Y K : Type 0} (key : Y → K) (cmp : K → K → Ordering) (g : X → Y) where
  -- a map over items that stand in order
  pub put_by_map : (x : X) (ys : List X) → map g (put_by (λ x. key (g x)) cmp x ys) ≡ put_by key cmp (g x) (map g ys)
  put_by_map x [] = refl
  put_by_map x (y ∷ ys) = by (cmp (key (g x)) (key (g y))) ∙ ap (λ r. by_order (cmp (key (g x)) (key (g y))) (g x ∷ g y ∷ map g ys) (g x ∷ map g ys) (g y ∷ r)) (put_by_map x ys)
    where
      by : (o : Ordering) → map g (by_order o (x ∷ y ∷ ys) (x ∷ ys) (y ∷ put_by (λ x. key (g x)) cmp x ys)) ≡ by_order o (g x ∷ g y ∷ map g ys) (g x ∷ map g ys) (g y ∷ map g (put_by (λ x. key (g x)) cmp x ys))
      by Less = refl
      by Equal = refl
      by Greater = refl

  pub in_order_map : (xs : List X) → map g (in_order_by (λ x. key (g x)) cmp xs) ≡ in_order_by key cmp (map g xs)
  in_order_map [] = refl
  in_order_map (x ∷ xs) = put_by_map x (in_order_by (λ x. key (g x)) cmp xs) ∙ ap (put_by key cmp (g x)) (in_order_map xs)
