-- What stands in lists that are joined, mapped, filtered, turned or put in order.
use Rattle.std.proofs.Common.{◌≡◌, List, [], ◌∷◌, ◌++◌, map, refl, sym, ap, subst, ◌∙◌, inl, inr}
use Rattle.std.specs.Prelude.{Bool, true, false, cond, ◌⊎◌, filter, flat_map, reverse}
use Rattle.std.specs.List.{AllByRecursion}
use Rattle.std.specs.declared.cmp.Ordering.{Ordering}
use Rattle.std.specs.declared.cmp.Ordering.TheVariants.{Less, Equal, Greater}
use Rattle.std.proofs.lemmas.Grind.{reverse_onto}
use Rattle.repl_data.specs.Order.{put_by, by_order, in_order_by}
use Rattle.view_walk.specs.Tree.{IsAmong}

module _ {X : Type 0} where
  pub in_front : (x : X) (xs ys : List X) → IsAmong x xs → IsAmong x (xs ++ ys)
  in_front x [] ys m = elim m [ ]
  in_front x (z ∷ xs) ys (inl e) = inl e
  in_front x (z ∷ xs) ys (inr m) = inr (in_front x xs ys m)

  pub in_behind : (x : X) (xs ys : List X) → IsAmong x ys → IsAmong x (xs ++ ys)
  in_behind x [] ys m = m
  in_behind x (z ∷ xs) ys m = inr (in_behind x xs ys m)

  pub of_append : (x : X) (xs ys : List X) → IsAmong x (xs ++ ys) → IsAmong x xs ⊎ IsAmong x ys
  of_append x [] ys m = inr m
  of_append x (z ∷ xs) ys (inl e) = inl (inl e)
  of_append x (z ∷ xs) ys (inr m) = elim (of_append x xs ys m) [ inl k ↦ inl (inr k) | inr k ↦ inr k ]

  pub of_reverse : (x : X) (xs : List X) → IsAmong x (reverse xs) → IsAmong x xs
  of_reverse x [] m = m
  of_reverse x (z ∷ xs) m =
      elim (of_append x (reverse xs) (z ∷ []) (subst (IsAmong x) (reverse_onto xs z []) m)) [
        | inl k ↦ inr (of_reverse x xs k)
        | inr k ↦ last k
      ]
    where
      last : IsAmong x (z ∷ []) → IsAmong x (z ∷ xs)
      last (inl e) = inl e
      last (inr k) = elim k [ ]

  pub in_reverse : (x : X) (xs : List X) → IsAmong x xs → IsAmong x (reverse xs)
  in_reverse x [] m = m
  in_reverse x (z ∷ xs) (inl e) = subst (IsAmong x) (sym (reverse_onto xs z [])) (in_behind x (reverse xs) (z ∷ []) (inl e))
  in_reverse x (z ∷ xs) (inr m) = subst (IsAmong x) (sym (reverse_onto xs z [])) (in_front x (reverse xs) (z ∷ []) (in_reverse x xs m))

  pub in_filter : (p : X → Bool) (x : X) (xs : List X) → IsAmong x xs → p x ≡ true → IsAmong x (filter p xs)
  in_filter p x [] m t = m
  in_filter p x (z ∷ xs) (inl e) t = subst (λ b. IsAmong x (cond b (z ∷ filter p xs) (filter p xs))) (sym (ap p (sym e) ∙ t)) (inl e)
  in_filter p x (z ∷ xs) (inr m) t = by (p z) (in_filter p x xs m t)
    where
      by : (b : Bool) → IsAmong x (filter p xs) → IsAmong x (cond b (z ∷ filter p xs) (filter p xs))
      by true k = inr k
      by false k = k

  pub of_filter : (p : X → Bool) (x : X) (xs : List X) → IsAmong x (filter p xs) → IsAmong x xs × (p x ≡ true)
  of_filter p x [] m = elim m [ ]
  of_filter p x (z ∷ xs) m = by (p z) refl m (of_filter p x xs)
    where
      by : (b : Bool) → p z ≡ b → IsAmong x (cond b (z ∷ filter p xs) (filter p xs)) → (IsAmong x (filter p xs) → IsAmong x xs × (p x ≡ true)) → IsAmong x (z ∷ xs) × (p x ≡ true)
      by true t (inl e) more = (inl e, ap p e ∙ t)
      by true t (inr k) more = let h = more k in (inr h.0, h.1)
      by false t k more = let h = more k in (inr h.0, h.1)

  pub one_of : (P : X → Type 0) (x : X) (xs : List X) → IsAmong x xs → AllByRecursion P xs → P x
  one_of P x [] m h = elim m [ ]
  one_of P x (z ∷ xs) (inl e) h = subst P (sym e) h.0
  one_of P x (z ∷ xs) (inr m) h = one_of P x xs m h.1

  pub each_of : (P : X → Type 0) (xs : List X) → ((x : X) → IsAmong x xs → P x) → AllByRecursion P xs
  each_of P [] f = tt
  each_of P (z ∷ xs) f = (f z (inl refl), each_of P xs (λ x m. f x (inr m)))

module _ {X Y : Type 0} where
  pub in_map : (f : X → Y) (x : X) (xs : List X) → IsAmong x xs → IsAmong (f x) (map f xs)
  in_map f x [] m = elim m [ ]
  in_map f x (z ∷ xs) (inl e) = inl (ap f e)
  in_map f x (z ∷ xs) (inr m) = inr (in_map f x xs m)

  pub of_map : (f : X → Y) (y : Y) (xs : List X) → IsAmong y (map f xs) → (x : X) × IsAmong x xs × (y ≡ f x)
  of_map f y [] m = elim m [ ]
  of_map f y (z ∷ xs) (inl e) = (z, inl refl, e)
  of_map f y (z ∷ xs) (inr m) = let h = of_map f y xs m in (h.0, inr h.1, h.2)

  pub in_flat : (f : X → List Y) (x : X) (y : Y) (xs : List X) → IsAmong x xs → IsAmong y (f x) → IsAmong y (flat_map f xs)
  in_flat f x y [] m k = elim m [ ]
  in_flat f x y (z ∷ xs) (inl e) k = in_front y (f z) (flat_map f xs) (subst (λ (w : X). IsAmong y (f w)) e k)
  in_flat f x y (z ∷ xs) (inr m) k = in_behind y (f z) (flat_map f xs) (in_flat f x y xs m k)

  pub of_flat : (f : X → List Y) (y : Y) (xs : List X) → IsAmong y (flat_map f xs) → (x : X) × IsAmong x xs × IsAmong y (f x)
  of_flat f y [] m = elim m [ ]
  of_flat f y (z ∷ xs) m =
      elim (of_append y (f z) (flat_map f xs) m) [
        | inl k ↦ (z, inl refl, k)
        | inr k ↦ (let h = of_flat f y xs k in (h.0, inr h.1, h.2))
      ]

-- what is put in its place stands there, and of what stood there all but one of the same key
module _ {K X : Type 0} (R : K → K → Ordering) (key : X → K) where
  of_put : (w x : X) (ys : List X) → IsAmong w (put_by key R x ys) → (w ≡ x) ⊎ IsAmong w ys
  of_put w x [] m = m
  of_put w x (y ∷ ys) m = by (R (key x) (key y)) m (of_put w x ys)
    where
      by : (o : Ordering) → IsAmong w (by_order o (x ∷ y ∷ ys) (x ∷ ys) (y ∷ put_by key R x ys)) → (IsAmong w (put_by key R x ys) → (w ≡ x) ⊎ IsAmong w ys) → (w ≡ x) ⊎ IsAmong w (y ∷ ys)
      by Less k more = k
      by Equal (inl e) more = inl e
      by Equal (inr k) more = inr (inr k)
      by Greater (inl e) more = inr (inl e)
      by Greater (inr k) more = elim (more k) [ inl e ↦ inl e | inr j ↦ inr (inr j) ]

  pub of_in_order : (w : X) (xs : List X) → IsAmong w (in_order_by key R xs) → IsAmong w xs
  of_in_order w [] m = m
  of_in_order w (x ∷ xs) m = elim (of_put w x (in_order_by key R xs) m) [ inl e ↦ inl e | inr k ↦ inr (of_in_order w xs k) ]

  -- by what the keys tell of an item
  module _ {I : Type 0} (id : X → I) (exact : (x y : X) → R (key x) (key y) ≡ Equal → id x ≡ id y) where
    put_there : (x : X) (ys : List X) → IsAmong (id x) (map id (put_by key R x ys))
    put_there x [] = inl refl
    put_there x (y ∷ ys) = by (R (key x) (key y)) (put_there x ys)
      where
        by : (o : Ordering) → IsAmong (id x) (map id (put_by key R x ys)) → IsAmong (id x) (map id (by_order o (x ∷ y ∷ ys) (x ∷ ys) (y ∷ put_by key R x ys)))
        by Less more = inl refl
        by Equal more = inl refl
        by Greater more = inr more

    put_beside : (w : I) (x : X) (ys : List X) → IsAmong w (map id ys) → IsAmong w (map id (put_by key R x ys))
    put_beside w x [] m = elim m [ ]
    put_beside w x (y ∷ ys) m = by (R (key x) (key y)) refl m (put_beside w x ys)
      where
        by : (o : Ordering) → R (key x) (key y) ≡ o → IsAmong w (map id (y ∷ ys)) → (IsAmong w (map id ys) → IsAmong w (map id (put_by key R x ys))) → IsAmong w (map id (by_order o (x ∷ y ∷ ys) (x ∷ ys) (y ∷ put_by key R x ys)))
        by Less o k more = inr k
        by Equal o (inl e) more = inl (e ∙ sym (exact x y o))
        by Equal o (inr k) more = inr k
        by Greater o (inl e) more = inl e
        by Greater o (inr k) more = inr (more k)

    pub in_in_order : (w : X) (xs : List X) → IsAmong w xs → IsAmong (id w) (map id (in_order_by key R xs))
    in_in_order w [] m = elim m [ ]
    in_in_order w (x ∷ xs) (inl e) = subst (λ (z : X). IsAmong (id z) (map id (in_order_by key R (x ∷ xs)))) (sym e) (put_there x (in_order_by key R xs))
    in_in_order w (x ∷ xs) (inr m) = put_beside (id w) x (in_order_by key R xs) (in_in_order w xs m)
