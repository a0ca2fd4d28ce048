-- Lists in which each item is below all later ones. Such a list is known by what stands in it.
use Rattle.std.proofs.Common.{◌≡◌, List, [], ◌∷◌, ◌++◌, map, refl, sym, subst, inl, inr}
use Rattle.std.specs.Prelude.{Bool, true, false, cond, filter, flat_map, reverse}
use Rattle.std.specs.List.{AllByRecursion}
use Rattle.std.proofs.lemmas.Grind.{reverse_onto}
use Rattle.view_walk.specs.Tree.{IsAmong}
use Rattle.view_walk.proofs.Members.{of_filter, of_reverse, of_flat, one_of, each_of}

abbrev pub Rise : {X : Type 0} → (X → X → Type 0) → List X → Type 0
Rise L [] = Unit {0}
Rise L (x ∷ xs) = AllByRecursion (λ y. L x y) xs × Rise L xs

module _ {X : Type 0} where
  pub rise_filter : (L : X → X → Type 0) (p : X → Bool) (xs : List X) → Rise L xs → Rise L (filter p xs)
  rise_filter L p [] r = tt
  rise_filter L p (x ∷ xs) r = by (p x) (rise_filter L p xs r.1)
    where
      by : (b : Bool) → Rise L (filter p xs) → Rise L (cond b (x ∷ filter p xs) (filter p xs))
      by true more = (each_of (λ y. L x y) (filter p xs) (λ y m. one_of (λ y. L x y) y xs (of_filter p y xs m).0 r.0), more)
      by false more = more

  pub all_join : (P : X → Type 0) (xs ys : List X) → AllByRecursion P xs → AllByRecursion P ys → AllByRecursion P (xs ++ ys)
  all_join P [] ys f g = g
  all_join P (x ∷ xs) ys f g = (f.0, all_join P xs ys f.1 g)

  pub rise_append : (L : X → X → Type 0) (xs ys : List X) → Rise L xs → Rise L ys → ((x y : X) → IsAmong x xs → IsAmong y ys → L x y) → Rise L (xs ++ ys)
  rise_append L [] ys r s f = s
  rise_append L (x ∷ xs) ys r s f =
      (all_join (λ y. L x y) xs ys r.0 (each_of (λ y. L x y) ys (λ y m. f x y (inl refl) m)), rise_append L xs ys r.1 s (λ w y m k. f w y (inr m) k))

  pub rise_reverse : (L : X → X → Type 0) (xs : List X) → Rise L xs → Rise (λ a b. L b a) (reverse xs)
  rise_reverse L [] r = tt
  rise_reverse L (x ∷ xs) r =
      subst (Rise (λ a b. L b a)) (sym (reverse_onto xs x []))
      (rise_append (λ a b. L b a) (reverse xs) (x ∷ []) (rise_reverse L xs r.1) (tt, tt)
      (λ a b m k. last a b k (one_of (λ y. L x y) a xs (of_reverse a xs m) r.0)))
    where
      last : (a b : X) → IsAmong b (x ∷ []) → L x a → L b a
      last a b (inl e) l = subst (λ (w : X). L w a) (sym e) l
      last a b (inr k) l = elim k [ ]

  -- two rising lists of the same items are the same
  module _ (L : X → X → Type 0) (none : (x : X) → L x x → ⊥) (trans : (x y z : X) → L x y → L y z → L x z) where
    heads : (x y : X) (xs ys : List X) → Rise L (x ∷ xs) → Rise L (y ∷ ys) → IsAmong x (y ∷ ys) → IsAmong y (x ∷ xs) → x ≡ y
    heads x y xs ys r s (inl e) k = e
    heads x y xs ys r s (inr m) (inl e) = sym e
    heads x y xs ys r s (inr m) (inr k) = absurd (none x (trans x y x (one_of (λ z. L x z) y xs k r.0) (one_of (λ z. L y z) x ys m s.0)))

    above : (x z : X) (ys : List X) → L x z → IsAmong z (x ∷ ys) → IsAmong z ys
    above x z ys l (inl e) = absurd (none x (subst (λ (w : X). L x w) e l))
    above x z ys l (inr m) = m

    pub same_list : (xs ys : List X) → Rise L xs → Rise L ys → ((x : X) → IsAmong x xs → IsAmong x ys) → ((x : X) → IsAmong x ys → IsAmong x xs) → xs ≡ ys
    same_list [] [] r s f g = refl
    same_list [] (y ∷ ys) r s f g = absurd (g y (inl refl))
    same_list (x ∷ xs) [] r s f g = absurd (f x (inl refl))
    same_list (x ∷ xs) (y ∷ ys) r s f g =
        let e : x ≡ y = heads x y xs ys r s (f x (inl refl)) (g y (inl refl)) in
        let forth : (z : X) → IsAmong z xs → IsAmong z ys = λ z m. above y z ys (subst (λ (w : X). L w z) e (one_of (λ w. L x w) z xs m r.0)) (f z (inr m)) in
        let back : (z : X) → IsAmong z ys → IsAmong z xs = λ z m. above x z xs (subst (λ (w : X). L w z) (sym e) (one_of (λ w. L y w) z ys m s.0)) (g z (inr m)) in
        λ i. e i ∷ same_list xs ys r.1 s.1 forth back i

-- lists of rising items, each list below the later ones
module _ {X Y : Type 0} where
  pub rise_flat : (B : X → X → Type 0) (L : Y → Y → Type 0) (f : X → List Y) (xs : List X) → Rise B xs → ((x : X) → IsAmong x xs → Rise L (f x))
      → ((a b : X) (y z : Y) → IsAmong a xs → IsAmong b xs → B a b → IsAmong y (f a) → IsAmong z (f b) → L y z) → Rise L (flat_map f xs)
  rise_flat B L f [] r own across = tt
  rise_flat B L f (x ∷ xs) r own across =
      rise_append L (f x) (flat_map f xs) (own x (inl refl)) (rise_flat B L f xs r.1 (λ a m. own a (inr m)) (λ a b y z m k l. across a b y z (inr m) (inr k) l))
      (λ y z m k. let h = of_flat f z xs k in across x h.0 y z (inl refl) (inr h.1) (one_of (λ w. B x w) h.0 xs h.1 r.0) m h.2)

  pub rise_map : (B : X → X → Type 0) (L : Y → Y → Type 0) (f : X → Y) (xs : List X) → ((a b : X) → IsAmong a xs → IsAmong b xs → B a b → L (f a) (f b)) → Rise B xs → Rise L (map f xs)
  rise_map B L f [] h r = tt
  rise_map B L f (x ∷ xs) h r = (all_of xs (λ y m. h x y (inl refl) (inr m)) r.0, rise_map B L f xs (λ a b m k. h a b (inr m) (inr k)) r.1)
    where
      all_of : (ys : List X) → ((y : X) → IsAmong y ys → B x y → L (f x) (f y)) → AllByRecursion (λ y. B x y) ys → AllByRecursion (λ y. L (f x) y) (map f ys)
      all_of [] g a = tt
      all_of (y ∷ ys) g a = (g y (inl refl) a.0, all_of ys (λ z m. g z (inr m)) a.1)
