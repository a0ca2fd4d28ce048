-- Lists in order of key as choices: for each key at most one item.
use Rattle.std.proofs.Common.{◌≡◌, ◌≢◌, ℕ, Bool, true, false, cond, not, ◌||◌, List, [], ◌∷◌, ◌++◌, map, refl, sym, ap, subst, ◌∙◌, Option, Some, None, append_assoc}
use Rattle.std.specs.Prelude.{filter, if◌then◌else◌}
use Rattle.std.specs.List.{AllByRecursion, list_any}
use Rattle.std.specs.declared.cmp.Ordering.{Ordering}
use Rattle.std.specs.declared.cmp.Ordering.TheVariants.{Less, Equal, Greater}
use Rattle.std.specs.Ordering.{is_eq, ordering_reverse}
use Rattle.repl_data.specs.Order.{bytes_cmp, bytes_eq, put_by, by_order}
use Rattle.repl_data.specs.Ordered.{Rises}
use Rattle.repl_data.proofs.KeyPlaces.{above, is_same, same_self}
use Rattle.repl_data.proofs.Orders.{bytes_total, bytes_exact}
use Rattle.repl_data.proofs.Loops.{all_mono}

abbrev pub own : List ℕ → List ℕ
own k = k

abbrev pub opt : {X : Type 0} → Option X → List X
opt None = []
opt (Some x) = x ∷ []

-- the items that are chosen for these keys
abbrev pub listed : {X : Type 0} → (List ℕ → Option X) → List (List ℕ) → List X
listed w [] = []
listed w (k ∷ ks) = opt (w k) ++ listed w ks

-- another choice for one key
abbrev pub with_one : {X : Type 0} → (List ℕ → Option X) → List ℕ → Option X → List ℕ → Option X
with_one w k o j = if bytes_eq j k then o else w j

abbrev pub put_key : List ℕ → List (List ℕ) → List (List ℕ)
put_key = put_by own bytes_cmp

pub above_other : (k j : List ℕ) → bytes_cmp k j ≡ Less → bytes_eq j k ≡ false
above_other k j l = ap is_eq (above k j l)

pub below_other : (k j : List ℕ) → bytes_cmp k j ≡ Greater → bytes_eq j k ≡ false
below_other k j g = ap is_eq (bytes_total.antisymm j k ∙ ap ordering_reverse g)

-- the same choices
pub listed_same : {X : Type 0} (w z : List ℕ → Option X) (ks : List (List ℕ)) → AllByRecursion (λ k. w k ≡ z k) ks → listed w ks ≡ listed z ks
listed_same w z [] h = refl
listed_same w z (k ∷ ks) h = λ i. opt (h.0 i) ++ listed_same w z ks h.1 i

pub all_keys : (P : List ℕ → Type 0) → ((k : List ℕ) → P k) → (ks : List (List ℕ)) → AllByRecursion P ks
all_keys P f [] = tt
all_keys P f (k ∷ ks) = (f k, all_keys P f ks)

one_other : {X : Type 0} (w : List ℕ → Option X) (k j : List ℕ) (o : Option X) → bytes_eq j k ≡ false → with_one w k o j ≡ w j
one_other w k j o n = ap (λ (b : Bool). if b then o else w j) n

one_own : {X : Type 0} (w : List ℕ → Option X) (k : List ℕ) (o : Option X) → with_one w k o k ≡ o
one_own w k o = ap (λ (b : Bool). if b then o else w k) (same_self k)

others : {X : Type 0} (w : List ℕ → Option X) (k : List ℕ) (o : Option X) (ks : List (List ℕ)) → AllByRecursion (λ j. bytes_cmp k j ≡ Less) ks → listed (with_one w k o) ks ≡ listed w ks
others w k o ks h = listed_same (with_one w k o) w ks (all_mono (λ j. bytes_cmp k j ≡ Less) (λ j. with_one w k o j ≡ w j) (λ j l. one_other w k j o (above_other k j l)) ks h)

module _ {X : Type 0} (key : X → List ℕ) (w : List ℕ → Option X) (fits : (j : List ℕ) (x : X) → w j ≡ Some x → key x ≡ j) where
  all_above : (k : List ℕ) (ks : List (List ℕ)) → AllByRecursion (λ j. bytes_cmp k j ≡ Less) ks → AllByRecursion (λ y. bytes_cmp k (key y) ≡ Less) (listed w ks)
  all_above k [] h = tt
  all_above k (j ∷ ks) h = by (w j) refl (all_above k ks h.1)
    where
      by : (o : Option X) → w j ≡ o → AllByRecursion (λ y. bytes_cmp k (key y) ≡ Less) (listed w ks) → AllByRecursion (λ y. bytes_cmp k (key y) ≡ Less) (opt o ++ listed w ks)
      by None e g = g
      by (Some y) e g = (subst (λ n. bytes_cmp k n ≡ Less) (sym (fits j y e)) h.0, g)

  put_first : (x : X) (ys : List X) → AllByRecursion (λ y. bytes_cmp (key x) (key y) ≡ Less) ys → put_by key bytes_cmp x ys ≡ x ∷ ys
  put_first x [] h = refl
  put_first x (y ∷ ys) h = ap (λ o. by_order o (x ∷ y ∷ ys) (x ∷ ys) (y ∷ put_by key bytes_cmp x ys)) h.0

  -- one item put is one choice more
  pub put_listed : (x : X) (ks : List (List ℕ)) → Rises own ks → put_by key bytes_cmp x (listed w ks) ≡ listed (with_one w (key x) (Some x)) (put_key (key x) ks)
  put_listed x [] r = ap (λ o. opt o ++ []) (sym (one_own w (key x) (Some x)))
  put_listed x (j ∷ ks) r = by (bytes_cmp (key x) j) refl (put_listed x ks r.1)
    where
      k : List ℕ
      k = key x

      z : List ℕ → Option X
      z = with_one w (key x) (Some x)

      further : (o : Ordering) → bytes_cmp (key x) j ≡ o → AllByRecursion (λ i. bytes_cmp (key x) i ≡ Less) (j ∷ ks) → x ∷ listed w (j ∷ ks) ≡ listed z (key x ∷ j ∷ ks)
      further o e h = sym ((λ i. opt (one_own w (key x) (Some x) i) ++ listed z (j ∷ ks)) ∙ ap (λ ys. x ∷ ys) (others w (key x) (Some x) (j ∷ ks) h))

      by : (o : Ordering) → bytes_cmp (key x) j ≡ o → put_by key bytes_cmp x (listed w ks) ≡ listed z (put_key (key x) ks)
          → put_by key bytes_cmp x (listed w (j ∷ ks)) ≡ listed z (by_order o (key x ∷ j ∷ ks) (key x ∷ ks) (j ∷ put_key (key x) ks))
      by Less e more =
          let h : AllByRecursion (λ i. bytes_cmp (key x) i ≡ Less) (j ∷ ks) = (e, all_mono (λ i. bytes_cmp j i ≡ Less) (λ i. bytes_cmp (key x) i ≡ Less) (λ i l. bytes_total.trans (key x) j i e l) ks r.0) in
          put_first x (listed w (j ∷ ks)) (all_above (key x) (j ∷ ks) h) ∙ further Less e h
      by Equal e more =
          let same : key x ≡ j = bytes_exact (key x) j e in
          let h : AllByRecursion (λ i. bytes_cmp (key x) i ≡ Less) ks = subst (λ n. AllByRecursion (λ i. bytes_cmp n i ≡ Less) ks) (sym same) r.0 in
          in_place (w j) refl (all_above (key x) ks h) e
          ∙ sym ((λ i. opt (one_own w (key x) (Some x) i) ++ listed z ks) ∙ ap (λ ys. x ∷ ys) (others w (key x) (Some x) ks h))
        where
          in_place : (o : Option X) → w j ≡ o → AllByRecursion (λ y. bytes_cmp (key x) (key y) ≡ Less) (listed w ks) → bytes_cmp (key x) j ≡ Equal → put_by key bytes_cmp x (opt o ++ listed w ks) ≡ x ∷ listed w ks
          in_place None g h e2 = put_first x (listed w ks) h
          in_place (Some y) g h e2 = ap (λ o. by_order o (x ∷ y ∷ listed w ks) (x ∷ listed w ks) (y ∷ put_by key bytes_cmp x (listed w ks))) (ap (bytes_cmp (key x)) (fits j y g) ∙ e2)
      by Greater e more = behind (w j) refl ∙ ap (λ o. opt o ++ listed z (put_key (key x) ks)) (sym (one_other w (key x) j (Some x) (below_other (key x) j e)))
        where
          behind : (o : Option X) → w j ≡ o → put_by key bytes_cmp x (opt o ++ listed w ks) ≡ opt o ++ listed z (put_key (key x) ks)
          behind None g = more
          behind (Some y) g =
              ap (λ o. by_order o (x ∷ y ∷ listed w ks) (x ∷ listed w ks) (y ∷ put_by key bytes_cmp x (listed w ks))) (ap (bytes_cmp (key x)) (fits j y g) ∙ e)
              ∙ ap (λ ys. y ∷ ys) more

  -- items taken out are choices less
  pub drop_listed : (q : List ℕ → Bool) (ks : List (List ℕ)) → filter (λ y. not (q (key y))) (listed w ks) ≡ listed (λ k. if q k then None else w k) ks
  drop_listed q [] = refl
  drop_listed q (j ∷ ks) = by (drop_listed q ks) (w j) refl (q j) refl
    where
      by : filter (λ y. not (q (key y))) (listed w ks) ≡ listed (λ k. if q k then None else w k) ks → (o : Option X) → w j ≡ o → (b : Bool) → q j ≡ b → filter (λ y. not (q (key y))) (opt o ++ listed w ks) ≡ opt (if q j then None else w j) ++ listed (λ k. if q k then None else w k) ks
      by rest None e true g = rest ∙ ap (λ (b : Bool). opt (if b then None else w j) ++ listed (λ k. if q k then None else w k) ks) (sym g)
      by rest None e false g = rest ∙ sym (ap (λ (b : Bool). opt (if b then None else w j) ++ listed (λ k. if q k then None else w k) ks) g ∙ ap (λ o. opt o ++ listed (λ k. if q k then None else w k) ks) e)
      by rest (Some y) e true g =
          ap (λ (b : Bool). cond (not b) (y ∷ filter (λ y. not (q (key y))) (listed w ks)) (filter (λ y. not (q (key y))) (listed w ks))) (ap q (fits j y e) ∙ g)
          ∙ rest ∙ ap (λ (b : Bool). opt (if b then None else w j) ++ listed (λ k. if q k then None else w k) ks) (sym g)
      by rest (Some y) e false g =
          ap (λ (b : Bool). cond (not b) (y ∷ filter (λ y. not (q (key y))) (listed w ks)) (filter (λ y. not (q (key y))) (listed w ks))) (ap q (fits j y e) ∙ g)
          ∙ ap (λ ys. y ∷ ys) rest
          ∙ sym (ap (λ (b : Bool). opt (if b then None else w j) ++ listed (λ k. if q k then None else w k) ks) g ∙ ap (λ o. opt o ++ listed (λ k. if q k then None else w k) ks) e)

-- a key for which nothing is chosen may be put
pub put_none : {X : Type 0} (z : List ℕ → Option X) (k : List ℕ) (ks : List (List ℕ)) → z k ≡ None → listed z ks ≡ listed z (put_key k ks)
put_none z k [] n = ap (λ o. opt o ++ []) (sym n)
put_none z k (j ∷ ks) n = by (bytes_cmp k j) refl (put_none z k ks n)
  where
    by : (o : Ordering) → bytes_cmp k j ≡ o → listed z ks ≡ listed z (put_key k ks) → listed z (j ∷ ks) ≡ listed z (by_order o (k ∷ j ∷ ks) (k ∷ ks) (j ∷ put_key k ks))
    by Less e more = ap (λ o. opt o ++ listed z (j ∷ ks)) (sym n)
    by Equal e more = ap (λ i. listed z (i ∷ ks)) (sym (bytes_exact k j e))
    by Greater e more = ap (λ ys. opt (z j) ++ ys) more

-- nothing is chosen
pub listed_none : {X : Type 0} (ks : List (List ℕ)) → listed {X = X} (λ _. None) ks ≡ []
listed_none [] = refl
listed_none (k ∷ ks) = listed_none ks
