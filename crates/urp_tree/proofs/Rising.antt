-- LISTS THAT RISE: two with the same members are one, and so is a list with the same members in its order.
use Rattle.std.proofs.Common.{◌≡◌, List, [], ◌∷◌, Bool, true, false, refl, sym, ap, subst, ◌∙◌}
use Rattle.std.specs.Prelude.{◌||◌}
use Rattle.std.specs.List.{AllByRecursion, list_any}
use Rattle.std.specs.Ordering.{is_eq, ordering_reverse}
use Rattle.std.specs.Cmp.{IsTotalOrder}
use Rattle.std.specs.declared.cmp.Ordering.{Ordering}
use Rattle.std.specs.declared.cmp.Ordering.TheVariants.{Less, Equal, Greater}
use Rattle.repl_data.specs.Order.{put_by, by_order, in_order}
use Rattle.repl_data.proofs.Orders.{split}
use Rattle.repl_data.proofs.InOrder.{Rises, in_order_by-Rises, any-in_order_by}

module _ {K : Type 0} (R : K → K → Ordering) (total : IsTotalOrder R) (exact : (x y : K) → R x y ≡ Equal → x ≡ y) where
  abbrev pub Rise : List K → Type 0
  Rise = Rises R total (λ (k : K). k)

  abbrev pub is_in : List K → K → Bool
  is_in ys x = list_any (λ (y : K). is_eq (R x y)) ys

  abbrev pub AreIn : List K → List K → Type 0
  AreIn ys xs = AllByRecursion (λ (x : K). is_in ys x ≡ true) xs

  abbrev Above : K → List K → Type 0
  Above x ys = AllByRecursion (λ (y : K). R x y ≡ Less) ys

  back : (x y : K) (o : Ordering) → R x y ≡ o → R y x ≡ ordering_reverse o
  back x y o h = total.antisymm y x ∙ ap ordering_reverse h

  -- what lies below all is none of them
  not_above : (x : K) (ys : List K) → Above x ys → is_in ys x ≡ false
  not_above x [] h = refl
  not_above x (y ∷ ys) h = ap (λ o. is_eq o || is_in ys x) h.0 ∙ not_above x ys h.1

  above_more : (x y : K) (ys : List K) → R x y ≡ Less → Above y ys → Above x ys
  above_more x y [] l h = tt
  above_more x y (z ∷ ys) l h = (total.trans x y z l h.0, above_more x y ys l h.1)

  lowest : {G : Type 0} (x y : K) (ys : List K) → R x y ≡ Less → Above y ys → is_in (y ∷ ys) x ≡ true → G
  lowest x y ys l h t = let f : true ≡ false = sym t ∙ not_above x (y ∷ ys) (l, above_more x y ys l h) in cc

  -- members other than the first are members of the rest
  others : (x : K) (ys zs : List K) → Above x zs → AreIn (x ∷ ys) zs → AreIn ys zs
  others x ys [] h m = tt
  others x ys (z ∷ zs) h m = (ap (λ o. is_eq o || is_in ys z) (sym (back x z Less h.0)) ∙ m.0, others x ys zs h.1 m.1)

  pub same_rising : (xs ys : List K) → Rise xs → Rise ys → AreIn ys xs → AreIn xs ys → xs ≡ ys
  same_rising [] [] a b m n = refl
  same_rising [] (y ∷ ys) a b m n = let f : false ≡ true = n.0 in cc
  same_rising (x ∷ xs) [] a b m n = let f : false ≡ true = m.0 in cc
  same_rising (x ∷ xs) (y ∷ ys) a b m n =
      split (R x y)
      (λ l. lowest x y ys l b.0 m.0)
      (λ e. let p : x ≡ y = exact x y e in
      (λ i. p i ∷ same_rising xs ys a.1 b.1
      (others y ys xs (subst (λ w. Above w xs) p a.0) m.1)
      (others x xs ys (subst (λ w. Above w ys) (sym p) b.0) n.1) i))
      (λ g. lowest y x xs (back x y Greater g) a.0 n.0)

  all_put : (P : K → Type 0) (x : K) (ys : List K) → P x → AllByRecursion P ys → AllByRecursion P (put_by (λ (k : K). k) R x ys)
  all_put P x [] p h = (p, tt)
  all_put P x (y ∷ ys) p h = by (R x y) (all_put P x ys p h.1)
    where
      by : (o : Ordering) → AllByRecursion P (put_by (λ (k : K). k) R x ys) → AllByRecursion P (by_order o (x ∷ y ∷ ys) (x ∷ ys) (y ∷ put_by (λ (k : K). k) R x ys))
      by Less more = (p, h)
      by Equal more = (p, h.1)
      by Greater more = (h.0, more)

  all_ordered : (P : K → Type 0) (xs : List K) → AllByRecursion P xs → AllByRecursion P (in_order R xs)
  all_ordered P [] h = tt
  all_ordered P (x ∷ xs) h = all_put P x (in_order R xs) h.0 (all_ordered P xs h.1)

  in_order_in : (ys xs : List K) → AreIn ys xs → AreIn (in_order R ys) xs
  in_order_in ys [] h = tt
  in_order_in ys (x ∷ xs) h = (any-in_order_by R total (λ (k : K). k) exact (λ (y : K). is_eq (R x y)) ys ∙ h.0, in_order_in ys xs h.1)

  -- the order of a list is that of its members
  pub same_order : (xs ys : List K) → AreIn ys xs → AreIn xs ys → in_order R xs ≡ in_order R ys
  same_order xs ys m n =
      same_rising (in_order R xs) (in_order R ys) (in_order_by-Rises R total (λ (k : K). k) xs) (in_order_by-Rises R total (λ (k : K). k) ys)
      (all_ordered (λ (x : K). is_in (in_order R ys) x ≡ true) xs (in_order_in ys xs m))
      (all_ordered (λ (y : K). is_in (in_order R xs) y ≡ true) ys (in_order_in xs ys n))

  put_front : (x : K) (xs : List K) → Above x xs → put_by (λ (k : K). k) R x xs ≡ x ∷ xs
  put_front x [] h = refl
  put_front x (y ∷ ys) h = ap (λ o. by_order o (x ∷ y ∷ ys) (x ∷ ys) (y ∷ put_by (λ (k : K). k) R x ys)) h.0

  -- and a list that rises is in its order
  pub own_order : (xs : List K) → Rise xs → in_order R xs ≡ xs
  own_order [] h = refl
  own_order (x ∷ xs) h = ap (put_by (λ (k : K). k) R x) (own_order xs h.1) ∙ put_front x xs h.0
