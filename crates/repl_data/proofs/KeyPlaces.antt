-- What the place of a key among rising items says of a look-up and of what is put or removed there.
use Rattle.std.proofs.Common.{◌≡◌, ℕ, zero, suc, ◌<◌, ◌≤◌, List, [], ◌∷◌, refl, sym, ap, subst, ◌∙◌, set, get_or, length, arith, cond, true, false, Option, Some, None}
use Rattle.std.specs.Prelude.{find, insert, remove, slice_get}
use Rattle.std.specs.List.{AllByRecursion}
use Rattle.std.specs.List.Sorted.{IsPartitionedBy}
use Rattle.std.specs.declared.cmp.Ordering.{Ordering}
use Rattle.std.specs.declared.cmp.Ordering.TheVariants.{Less, Equal, Greater}
use Rattle.std.specs.Ordering.{is_eq, is_lt, ordering_reverse}
use Rattle.std.proofs.lemmas.Cmp.{tied_itself}
use Rattle.repl_data.specs.Order.{bytes_cmp, bytes_eq, put_by, by_order}
use Rattle.repl_data.specs.Ordered.{Rises, IsAt, IsGap}
use Rattle.repl_data.proofs.Orders.{bytes_total, bytes_exact, split}
use Rattle.repl_data.proofs.InOrder.{is_equal, put-Rises}

pub above : (a b : List ℕ) → bytes_cmp a b ≡ Less → bytes_cmp b a ≡ Greater
above a b h = bytes_total.antisymm b a ∙ ap ordering_reverse h

pub is_less : (o : Ordering) → is_lt o ≡ true → o ≡ Less
is_less Less e = refl
is_less Equal e = let f : false ≡ true = e in cc
is_less Greater e = let f : false ≡ true = e in cc

module _ {X : Type 0} (key : X → List ℕ) where
  abbrev put_key : X → List X → List X
  put_key = put_by key bytes_cmp

  put_step : (x y : X) (ys : List X) (o : Ordering) → bytes_cmp (key x) (key y) ≡ o → put_key x (y ∷ ys) ≡ by_order o (x ∷ y ∷ ys) (x ∷ ys) (y ∷ put_key x ys)
  put_step x y ys o e = ap (λ p. by_order p (x ∷ y ∷ ys) (x ∷ ys) (y ∷ put_key x ys)) e

  -- an item of the key of the one at the place goes there
  pub put_at : (x : X) (xs : List X) (n : ℕ) → IsAt key (key x) xs n → put_key x xs ≡ set xs n x
  put_at x [] n h = elim h [ ]
  put_at x (y ∷ ys) zero h = put_step x y ys Equal (ap (bytes_cmp (key x)) h ∙ tied_itself bytes_total (key x))
  put_at x (y ∷ ys) (suc n) h = put_step x y ys Greater (above (key y) (key x) h.0) ∙ ap (λ r. y ∷ r) (put_at x ys n h.1)

  pub put_gap : (x : X) (xs : List X) (n : ℕ) → IsGap key (key x) xs n → put_key x xs ≡ insert xs n x
  put_gap x [] zero h = refl
  put_gap x [] (suc n) h = elim h [ ]
  put_gap x (y ∷ ys) zero h = put_step x y ys Less h
  put_gap x (y ∷ ys) (suc n) h = put_step x y ys Greater (above (key y) (key x) h.0) ∙ ap (λ r. y ∷ r) (put_gap x ys n h.1)

  find_step : (k : List ℕ) (y : X) (ys : List X) (o : Ordering) → bytes_cmp k (key y) ≡ o → find (λ x. bytes_eq k (key x)) (y ∷ ys) ≡ cond (is_eq o) (Some y) (find (λ x. bytes_eq k (key x)) ys)
  find_step k y ys o e = ap (λ p. cond (is_eq p) (Some y) (find (λ x. bytes_eq k (key x)) ys)) e

  -- the item at the place is the one that is found
  pub find_at : (k : List ℕ) (xs : List X) (n : ℕ) (d : X) → IsAt key k xs n → Some (get_or xs n d) ≡ find (λ x. bytes_eq k (key x)) xs
  find_at k [] n d h = elim h [ ]
  find_at k (y ∷ ys) zero d h = sym (find_step k y ys Equal (ap (bytes_cmp k) h ∙ tied_itself bytes_total k))
  find_at k (y ∷ ys) (suc n) d h = find_at k ys n d h.1 ∙ sym (find_step k y ys Greater (above (key y) k h.0))

  -- the same of what a look-up at the place gives
  pub get_at : (k : List ℕ) (xs : List X) (n : ℕ) → IsAt key k xs n → slice_get xs n ≡ find (λ x. bytes_eq k (key x)) xs
  get_at k [] n h = elim h [ ]
  get_at k (y ∷ ys) zero h = sym (find_step k y ys Equal (ap (bytes_cmp k) h ∙ tied_itself bytes_total k))
  get_at k (y ∷ ys) (suc n) h = get_at k ys n h.1 ∙ sym (find_step k y ys Greater (above (key y) k h.0))

  -- and where there is none at it, none is found
  none_above : (k : List ℕ) (y : X) (ys : List X) → bytes_cmp k (key y) ≡ Less → AllByRecursion (λ z. bytes_cmp (key y) (key z) ≡ Less) ys → None ≡ find (λ x. bytes_eq k (key x)) ys
  none_above k y [] h g = refl
  none_above k y (z ∷ zs) h g = none_above k y zs h g.1 ∙ sym (find_step k z zs Less (bytes_total.trans k (key y) (key z) h g.0))

  pub find_gap : (k : List ℕ) (xs : List X) (n : ℕ) → Rises key xs → IsGap key k xs n → None ≡ find (λ x. bytes_eq k (key x)) xs
  find_gap k [] n r h = refl
  find_gap k (y ∷ ys) zero r h = none_above k y ys h r.0 ∙ sym (find_step k y ys Less h)
  find_gap k (y ∷ ys) (suc n) r h = find_gap k ys n r.1 h.1 ∙ sym (find_step k y ys Greater (above (key y) k h.0))

  pub at_within : (k : List ℕ) (xs : List X) (n : ℕ) → IsAt key k xs n → n < length xs
  at_within k [] n h = elim h [ ]
  at_within k (y ∷ ys) zero h = omega arith
  at_within k (y ∷ ys) (suc n) h = let l : n < length ys = at_within k ys n h.1 in omega arith

  pub gap_within : (k : List ℕ) (xs : List X) (n : ℕ) → IsGap key k xs n → n ≤ length xs
  gap_within k [] zero h = omega arith
  gap_within k [] (suc n) h = elim h [ ]
  gap_within k (y ∷ ys) zero h = omega arith
  gap_within k (y ∷ ys) (suc n) h = let l : n ≤ length ys = gap_within k ys n h.1 in omega arith

  -- the item at the place has the key
  pub at_key : (k : List ℕ) (xs : List X) (n : ℕ) (x : X) → IsAt key k xs n → slice_get xs n ≡ Some x → key x ≡ k
  at_key k [] n x h e = elim h [ ]
  at_key k (y ∷ ys) zero x h e = let p : y ≡ x = cc in ap key (sym p) ∙ h
  at_key k (y ∷ ys) (suc n) x h e = at_key k ys n x h.1 e

  -- what is put after the item at the place was removed goes there
  put_above : (x : X) (ys : List X) → AllByRecursion (λ y. bytes_cmp (key x) (key y) ≡ Less) ys → put_key x ys ≡ x ∷ ys
  put_above x [] h = refl
  put_above x (y ∷ ys) h = put_step x y ys Less h.0

  pub put_removed : (x : X) (xs : List X) (n : ℕ) → Rises key xs → IsAt key (key x) xs n → put_key x (remove xs n) ≡ put_key x xs
  put_removed x [] n r h = elim h [ ]
  put_removed x (y ∷ ys) zero r h =
      put_above x ys (subst (λ k. AllByRecursion (λ z. bytes_cmp k (key z) ≡ Less) ys) h r.0) ∙ sym (put_step x y ys Equal (ap (bytes_cmp (key x)) h ∙ tied_itself bytes_total (key x)))
  put_removed x (y ∷ ys) (suc n) r h =
      let g = above (key y) (key x) h.0 in
      put_step x y (remove ys n) Greater g ∙ ap (λ w. y ∷ w) (put_removed x ys n r.1 h.1) ∙ sym (put_step x y ys Greater g)

  -- from a count of the items below the key
  pub at_from : (k : List ℕ) (xs : List X) (n : ℕ) → ((i : ℕ) (d : X) → i < n → is_lt (bytes_cmp (key (get_or xs i d)) k) ≡ true) → n < length xs → ((d : X) → key (get_or xs n d) ≡ k) → IsAt key k xs n
  at_from k [] n b l h = let f : n < 0 = l in absurd (omega arith)
  at_from k (y ∷ ys) zero b l h = h y
  at_from k (y ∷ ys) (suc n) b l h = (is_less _ (b 0 y (omega arith)), at_from k ys n (λ i d m. b (suc i) d (omega arith)) (omega arith) h)

  pub gap_from : (k : List ℕ) (xs : List X) (n : ℕ) → ((i : ℕ) (d : X) → i < n → is_lt (bytes_cmp (key (get_or xs i d)) k) ≡ true) → n ≤ length xs → ((d : X) → n < length xs → bytes_cmp k (key (get_or xs n d)) ≡ Less) → IsGap key k xs n
  gap_from k [] zero b l h = tt
  gap_from k [] (suc n) b l h = let f : suc n ≤ 0 = l in absurd (omega arith)
  gap_from k (y ∷ ys) zero b l h = h y (omega arith)
  gap_from k (y ∷ ys) (suc n) b l h = (is_less _ (b 0 y (omega arith)), gap_from k ys n (λ i d m. b (suc i) d (omega arith)) (omega arith) (λ d m. h d (omega arith)))

-- what is put keeps the order
pub put_rises : {X : Type 0} (key : X → List ℕ) (x : X) (xs : List X) → Rises key xs → Rises key (put_by key bytes_cmp x xs)
put_rises key x xs h = put-Rises bytes_cmp bytes_total key x xs h

-- what holds of the item and of all others holds of all with it
pub all_put : {X : Type 0} (key : X → List ℕ) (P : X → Type 0) (x : X) (xs : List X) → P x → AllByRecursion P xs → AllByRecursion P (put_by key bytes_cmp x xs)
all_put key P x [] p h = (p, tt)
all_put key P x (y ∷ ys) p h = by (all_put key P x ys p h.1) (bytes_cmp (key x) (key y))
  where
    by : AllByRecursion P (put_by key bytes_cmp x ys) → (o : Ordering) → AllByRecursion P (by_order o (x ∷ y ∷ ys) (x ∷ ys) (y ∷ put_by key bytes_cmp x ys))
    by more Less = (p, h)
    by more Equal = (p, h.1)
    by more Greater = (h.0, more)

-- the items below a key stand in front
pub Rises-parted : {X : Type 0} (key : X → List ℕ) (k : List ℕ) (xs : List X) → Rises key xs → IsPartitionedBy (λ x. is_lt (bytes_cmp (key x) k)) xs
Rises-parted key k xs r = λ i j d le l h. below key k xs r i j d le l h
  where
    first : {X : Type 0} (key : X → List ℕ) (k : List ℕ) (y : X) (ys : List X) (j : ℕ) (d : X) → AllByRecursion (λ z. bytes_cmp (key y) (key z) ≡ Less) ys → j < length ys → is_lt (bytes_cmp (key (get_or ys j d)) k) ≡ true → is_lt (bytes_cmp (key y) k) ≡ true
    first key k y [] j d r l h = let f : j < 0 = l in absurd (omega arith)
    first key k y (z ∷ zs) zero d r l h = ap is_lt (bytes_total.trans (key y) (key z) k r.0 (is_less _ h))
    first key k y (z ∷ zs) (suc j) d r l h = first key k y zs j d r.1 (omega arith) h

    below : {X : Type 0} (key : X → List ℕ) (k : List ℕ) (xs : List X) → Rises key xs → (i j : ℕ) (d : X) → i ≤ j → j < length xs → is_lt (bytes_cmp (key (get_or xs j d)) k) ≡ true → is_lt (bytes_cmp (key (get_or xs i d)) k) ≡ true
    below key k [] r i j d le l h = let f : j < 0 = l in absurd (omega arith)
    below key k (y ∷ ys) r zero zero d le l h = h
    below key k (y ∷ ys) r zero (suc j) d le l h = first key k y ys j d r.0 (omega arith) h
    below key k (y ∷ ys) r (suc i) zero d le l h = absurd (omega arith)
    below key k (y ∷ ys) r (suc i) (suc j) d le l h = below key k ys r.1 i j d (omega arith) (omega arith) h

-- neither below nor equal: above
pub is_above : (a k : List ℕ) → is_lt (bytes_cmp a k) ≡ false → bytes_eq a k ≡ false → bytes_cmp k a ≡ Less
is_above a k h g =
    split (bytes_cmp a k)
    (λ e. let f : true ≡ false = sym (ap is_lt e) ∙ h in cc)
    (λ e. let f : true ≡ false = sym (ap is_eq e) ∙ g in cc)
    (λ e. bytes_total.antisymm k a ∙ ap ordering_reverse e)

pub is_same : (a k : List ℕ) → bytes_eq a k ≡ true → a ≡ k
is_same a k h = bytes_exact a k (is_equal (bytes_cmp a k) h)

pub same_self : (a : List ℕ) → bytes_eq a a ≡ true
same_self a = ap is_eq (tied_itself bytes_total a)

pub same_turned : (a b : List ℕ) → bytes_eq a b ≡ bytes_eq b a
same_turned a b = ap is_eq (bytes_total.antisymm a b) ∙ by (bytes_cmp b a)
  where
    by : (o : Ordering) → is_eq (ordering_reverse o) ≡ is_eq o
    by Less = refl
    by Equal = refl
    by Greater = refl

-- what holds of all items holds of those that are left
pub all_removed : {X : Type 0} (P : X → Type 0) (xs : List X) (n : ℕ) → AllByRecursion P xs → AllByRecursion P (remove xs n)
all_removed P [] zero h = tt
all_removed P [] (suc n) h = tt
all_removed P (x ∷ xs) zero h = h.1
all_removed P (x ∷ xs) (suc n) h = (h.0, all_removed P xs n h.1)

pub Rises-removed : {X : Type 0} (key : X → List ℕ) (xs : List X) (n : ℕ) → Rises key xs → Rises key (remove xs n)
Rises-removed key [] zero h = tt
Rises-removed key [] (suc n) h = tt
Rises-removed key (x ∷ xs) zero h = h.1
Rises-removed key (x ∷ xs) (suc n) h = (all_removed (λ y. bytes_cmp (key x) (key y) ≡ Less) xs n h.0, Rises-removed key xs n h.1)

-- one of all
pub all_get : {X : Type 0} (P : X → Type 0) (xs : List X) (n : ℕ) (x : X) → AllByRecursion P xs → slice_get xs n ≡ Some x → P x
all_get P [] n x h e = let f : ◌≡◌ {A = Option _} None (Some x) = e in absurd (nothing x f)
  where
    nothing : {X : Type 0} (x : X) → ◌≡◌ {A = Option X} None (Some x) → ⊥
    nothing x e = cc
all_get P (y ∷ ys) zero x h e = let p : y ≡ x = cc in subst P p h.0
all_get P (y ∷ ys) (suc n) x h e = all_get P ys n x h.1 e
