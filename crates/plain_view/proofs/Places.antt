-- Places in lists: where an id goes among rising ones, and a loop that changes one element after the other.
use Rattle.std.proofs.Common.{◌≡◌, ℕ, zero, suc, ◌<◌, ◌≤◌, ◌+◌, Bool, true, false, cond, List, [], ◌∷◌, ◌++◌, map, length, take, drop, set, get_or, add-one, arith, Some, refl, sym, ap, ◌∙◌}
use Rattle.std.specs.Prelude.{filter, insert}
use Rattle.std.proofs.Math.Seq.{drop-cons}
use Rattle.std.specs.List.{AllByRecursion}
use Rattle.std.specs.List.Sorted.{IsPartitionedBy}
use Rattle.std.specs.Ordering.{is_eq, is_lt, ordering_reverse}
use Rattle.std.specs.declared.cmp.Ordering.{Ordering}
use Rattle.std.specs.declared.cmp.Ordering.TheVariants.{Less, Equal}
use Rattle.repl_data.specs.declared.csn.Uid.{Uid}
use Rattle.repl_data.specs.Order.{uid_cmp, uid_eq, put_by, by_order}
use Rattle.repl_data.specs.declared.change.Rdn.{Rdn}
use Rattle.repl_data.specs.Facts.{EntryFacts}
use Rattle.repl_data.specs.View.{PresentEntry}
use Rattle.repl_data.proofs.Orders.{uid_total, split}
use Rattle.repl_data.proofs.Sound.{neither}
use Rattle.plain_view.specs.Growth.{yields, joined_name, joined, renamed, id_of, HasRisingIds, is_among_present}
use Rattle.repl_data.proofs.Loops.{filter_append}
use Rattle.repl_data.proofs.KeyPlaces.{is_less}
use Rattle.repl_data.proofs.Known.{above_id}

-- neither below nor equal: above
is_above : (u v : Uid) → is_lt (uid_cmp u v) ≡ false → uid_eq u v ≡ false → uid_cmp v u ≡ Less
is_above u v h g =
    split (uid_cmp u v)
    (λ e. let f : true ≡ false = sym (ap is_lt e) ∙ h in cc)
    (λ e. let f : true ≡ false = sym (ap is_eq e) ∙ g in cc)
    (λ e. uid_total.antisymm v u ∙ ap ordering_reverse e)

-- the entries of lower ids stand in front
pub ids_parted : (k : Uid) (xs : List PresentEntry) → HasRisingIds xs → IsPartitionedBy (λ (e : PresentEntry). is_lt (uid_cmp e.id k)) xs
ids_parted k xs r = λ i j d le l h. below xs r i j d le l h
  where
    first : (y : PresentEntry) (ys : List PresentEntry) (j : ℕ) (d : PresentEntry) → AllByRecursion (λ (z : PresentEntry). uid_cmp y.id z.id ≡ Less) ys → j < length ys → is_lt (uid_cmp (get_or ys j d).id k) ≡ true → is_lt (uid_cmp y.id k) ≡ true
    first y [] j d r l h = let f : j < 0 = l in absurd (omega arith)
    first y (z ∷ zs) zero d r l h = ap is_lt (uid_total.trans y.id z.id k r.0 (is_less _ h))
    first y (z ∷ zs) (suc j) d r l h = first y zs j d r.1 (omega arith) h

    below : (xs : List PresentEntry) → HasRisingIds xs → (i j : ℕ) (d : PresentEntry) → i ≤ j → j < length xs → is_lt (uid_cmp (get_or xs j d).id k) ≡ true → is_lt (uid_cmp (get_or xs i d).id k) ≡ true
    below [] r i j d le l h = let f : j < 0 = l in absurd (omega arith)
    below (y ∷ ys) r zero zero d le l h = h
    below (y ∷ ys) r zero (suc j) d le l h = first y ys j d r.0 (omega arith) h
    below (y ∷ ys) r (suc i) zero d le l h = absurd (omega arith)
    below (y ∷ ys) r (suc i) (suc j) d le l h = below ys r.1 i j d (omega arith) (omega arith) h

-- a new entry goes behind those of lower ids
pub insert_is : (x : PresentEntry) (xs : List PresentEntry) (n : ℕ)
    → ((i : ℕ) (d : PresentEntry) → i < n → is_lt (uid_cmp (get_or xs i d).id x.id) ≡ true)
    → n ≤ length xs
    → ((d : PresentEntry) → n < length xs → is_lt (uid_cmp (get_or xs n d).id x.id) ≡ false)
    → is_among_present xs x.id ≡ false
    → insert xs n x ≡ put_by id_of uid_cmp x xs
insert_is x [] zero b l a out = refl
insert_is x [] (suc n) b l a out = let f : suc n ≤ 0 = l in absurd (omega arith)
insert_is x (y ∷ ys) zero b l a out =
    let h = neither (uid_eq y.id x.id) (is_among_present ys x.id) out in
    ap (λ o. by_order o (x ∷ y ∷ ys) (x ∷ ys) (y ∷ put_by id_of uid_cmp x ys)) (sym (is_above y.id x.id (a y (omega arith)) h.0))
insert_is x (y ∷ ys) (suc n) b l a out =
    let h = neither (uid_eq y.id x.id) (is_among_present ys x.id) out in
    ap (λ r. y ∷ r) (insert_is x ys n (λ i d m. b (suc i) d (omega arith)) (omega arith) (λ d m. a d (omega arith)) h.1)
    ∙ ap (λ o. by_order o (x ∷ y ∷ ys) (x ∷ ys) (y ∷ put_by id_of uid_cmp x ys)) (sym (above_id y.id x.id (is_less _ (b 0 y (omega arith)))))

module _ {X : Type 0} where
  take_drop : (xs : List X) (n : ℕ) → take n xs ++ drop n xs ≡ xs
  take_drop [] zero = refl
  take_drop [] (suc n) = refl
  take_drop (x ∷ xs) zero = refl
  take_drop (x ∷ xs) (suc n) = ap (λ r. x ∷ r) (take_drop xs n)

  -- a filter that leaves out what is put in
  pub filter_insert : (p : X → Bool) (xs : List X) (n : ℕ) (x : X) → p x ≡ false → filter p (insert xs n x) ≡ filter p xs
  filter_insert p xs n x h =
      filter_append p (take n xs) (x ∷ drop n xs)
      ∙ ap (λ b. filter p (take n xs) ++ cond b (x ∷ filter p (drop n xs)) (filter p (drop n xs))) h
      ∙ sym (filter_append p (take n xs) (drop n xs))
      ∙ ap (filter p) (take_drop xs n)

  -- the filter of what is left, at a step
  pub filter_left : (p : X → Bool) (xs : List X) (i : ℕ) (d : X) → i < length xs → filter p (drop i xs) ≡ cond (p (get_or xs i d)) (get_or xs i d ∷ filter p (drop (i + 1) xs)) (filter p (drop (i + 1) xs))
  filter_left p xs i d l = ap (filter p) (drop-cons xs i d l ∙ ap (λ n. get_or xs i d ∷ drop n xs) (sym (add-one i)))

  -- the elements changed up to a place
  module _ (g : X → X) where
    abbrev pub changed_to : ℕ → List X → List X
    changed_to i xs = map g (take i xs) ++ drop i xs

    changed_get_suc : (xs : List X) (i : ℕ) (d : X) → get_or (changed_to i xs) i d ≡ get_or xs i d
    changed_get_suc [] zero d = refl
    changed_get_suc [] (suc i) d = refl
    changed_get_suc (x ∷ xs) zero d = refl
    changed_get_suc (x ∷ xs) (suc i) d = changed_get_suc xs i d

    pub changed_get : (xs : List X) (i : ℕ) (d : X) → get_or (changed_to i xs) i d ≡ get_or xs i d
    changed_get = changed_get_suc

    changed_set_suc : (xs : List X) (i : ℕ) (d : X) → i < length xs → set (changed_to i xs) i (g (get_or xs i d)) ≡ changed_to (suc i) xs
    changed_set_suc [] i d l = let f : i < 0 = l in absurd (omega arith)
    changed_set_suc (x ∷ xs) zero d l = refl
    changed_set_suc (x ∷ xs) (suc i) d l = ap (λ r. g x ∷ r) (changed_set_suc xs i d (omega arith))

    pub changed_set : (xs : List X) (i : ℕ) (d : X) → i < length xs → set (changed_to i xs) i (g (get_or xs i d)) ≡ changed_to (i + 1) xs
    changed_set xs i d l = changed_set_suc xs i d l ∙ ap (λ n. changed_to n xs) (sym (add-one i))

    changed_same_suc : (xs : List X) (i : ℕ) (d : X) → i < length xs → g (get_or xs i d) ≡ get_or xs i d → changed_to i xs ≡ changed_to (suc i) xs
    changed_same_suc [] i d l h = let f : i < 0 = l in absurd (omega arith)
    changed_same_suc (x ∷ xs) zero d l h = ap (λ y. y ∷ xs) (sym h)
    changed_same_suc (x ∷ xs) (suc i) d l h = ap (λ r. g x ∷ r) (changed_same_suc xs i d (omega arith) h)

    pub changed_same : (xs : List X) (i : ℕ) (d : X) → i < length xs → g (get_or xs i d) ≡ get_or xs i d → changed_to i xs ≡ changed_to (i + 1) xs
    changed_same xs i d l h = changed_same_suc xs i d l h ∙ ap (λ n. changed_to n xs) (sym (add-one i))

    pub changed_all : (xs : List X) → changed_to (length xs) xs ≡ map g xs
    changed_all [] = refl
    changed_all (x ∷ xs) = ap (λ r. g x ∷ r) (changed_all xs)

-- what one entry shows after a step of the loop that renames, and which names are left then
pub taken_name : (f : EntryFacts) (x : PresentEntry) (name : Rdn) → yields f x ≡ true → name ≡ joined_name x → renamed f x ≡ record x { shown = name }
unfolding renamed
taken_name f x name h e = ap (λ b. cond b (joined x) x) h ∙ ap (λ r. record x { shown = r }) (sym e)

pub kept_name : (f : EntryFacts) (x : PresentEntry) → yields f x ≡ false → renamed f x ≡ x
unfolding renamed
kept_name f x h = ap (λ b. cond b (joined x) x) h

module _ (f : EntryFacts) (xs : List PresentEntry) (i : ℕ) (d : PresentEntry) (l : i < length xs) where
  pub lost_here : yields f (get_or xs i d) ≡ true → filter (yields f) (drop i xs) ≡ get_or xs i d ∷ filter (yields f) (drop (i + 1) xs)
  lost_here h = filter_left (yields f) xs i d l ∙ ap (λ b. cond b (get_or xs i d ∷ filter (yields f) (drop (i + 1) xs)) (filter (yields f) (drop (i + 1) xs))) h

  pub kept_here : yields f (get_or xs i d) ≡ false → filter (yields f) (drop i xs) ≡ filter (yields f) (drop (i + 1) xs)
  kept_here h = filter_left (yields f) xs i d l ∙ ap (λ b. cond b (get_or xs i d ∷ filter (yields f) (drop (i + 1) xs)) (filter (yields f) (drop (i + 1) xs))) h

pub first_is : (a b : Rdn) → Some a ≡ Some b → a ≡ b
first_is a b e = cc
