-- SUMS over lists that rise: the members of one list among those of another, and what is left.
use Rattle.std.proofs.Common.{◌≡◌, ℕ, ◌+◌, Bool, true, false, not, ◌||◌, cond, List, [], ◌∷◌, refl, sym, ap, ◌∙◌, arith}
use Rattle.std.specs.Prelude.{filter}
use Rattle.std.specs.List.{AllByRecursion}
use Rattle.std.specs.Ordering.{is_eq}
use Rattle.std.specs.Cmp.{IsTotalOrder}
use Rattle.std.specs.declared.cmp.Ordering.{Ordering}
use Rattle.std.specs.declared.cmp.Ordering.TheVariants.{Less, Equal}
use Rattle.std.proofs.lemmas.Cmp.{tied_itself}
use Rattle.repl_data.proofs.Bools.{either_second}
use Rattle.repl_data.proofs.InOrder.{is_equal}
use Rattle.urp_tree.proofs.Rising.{Rise, is_in, AreIn, same_rising}

abbrev pub sum_over : {X : Type 0} → (X → ℕ) → List X → ℕ
sum_over f [] = 0
sum_over f (x ∷ xs) = f x + sum_over f xs

module _ {X : Type 0} where
  split_sum : (p : X → Bool) (f : X → ℕ) (xs : List X) → sum_over f xs ≡ sum_over f (filter p xs) + sum_over f (filter (λ x. not (p x)) xs)
  split_sum p f [] = refl
  split_sum p f (x ∷ xs) = by (p x) (split_sum p f xs)
    where
      by : (b : Bool) → sum_over f xs ≡ sum_over f (filter p xs) + sum_over f (filter (λ x. not (p x)) xs)
          → f x + sum_over f xs ≡ sum_over f (cond b (x ∷ filter p xs) (filter p xs)) + sum_over f (cond (not b) (x ∷ filter (λ x. not (p x)) xs) (filter (λ x. not (p x)) xs))
      by true e = omega arith
      by false e = omega arith

  pub same_sums : (f g : X → ℕ) (xs : List X) → AllByRecursion (λ x. f x ≡ g x) xs → sum_over f xs ≡ sum_over g xs
  same_sums f g [] h = refl
  same_sums f g (x ∷ xs) h = let one : f x ≡ g x = h.0 in let more = same_sums f g xs h.1 in omega arith

  all_pass : (p : X → Bool) (xs : List X) → AllByRecursion (λ x. p x ≡ true) (filter p xs)
  all_pass p [] = tt
  all_pass p (x ∷ xs) = by (p x) refl (all_pass p xs)
    where
      by : (b : Bool) → p x ≡ b → AllByRecursion (λ y. p y ≡ true) (filter p xs) → AllByRecursion (λ y. p y ≡ true) (cond b (x ∷ filter p xs) (filter p xs))
      by true e more = (e, more)
      by false e more = more

  all_kept : (P : X → Type 0) (p : X → Bool) (xs : List X) → AllByRecursion P xs → AllByRecursion P (filter p xs)
  all_kept P p [] h = tt
  all_kept P p (x ∷ xs) h = by (p x) (all_kept P p xs h.1)
    where
      by : (b : Bool) → AllByRecursion P (filter p xs) → AllByRecursion P (cond b (x ∷ filter p xs) (filter p xs))
      by true more = (h.0, more)
      by false more = more

  all_mono : (P Q : X → Type 0) → ((x : X) → P x → Q x) → (xs : List X) → AllByRecursion P xs → AllByRecursion Q xs
  all_mono P Q f [] h = tt
  all_mono P Q f (x ∷ xs) h = (f x h.0, all_mono P Q f xs h.1)

not_true : (b : Bool) → not b ≡ true → b ≡ false
not_true true e = let f : false ≡ true = e in absurd cc
not_true false e = refl

module _ {K : Type 0} (R : K → K → Ordering) (total : IsTotalOrder R) (exact : (x y : K) → R x y ≡ Equal → x ≡ y) where
  abbrev In : List K → K → Bool
  In ys x = is_in R total exact ys x

  filter_rise : (p : K → Bool) (xs : List K) → Rise R total exact xs → Rise R total exact (filter p xs)
  filter_rise p [] h = tt
  filter_rise p (x ∷ xs) h = by (p x) (filter_rise p xs h.1)
    where
      by : (b : Bool) → Rise R total exact (filter p xs) → Rise R total exact (cond b (x ∷ filter p xs) (filter p xs))
      by true more = (all_kept (λ (y : K). R x y ≡ Less) p xs h.0, more)
      by false more = more

  in_filter : (p : K → Bool) (xs : List K) (x : K) → In xs x ≡ true → p x ≡ true → In (filter p xs) x ≡ true
  in_filter p [] x h k = h
  in_filter p (y ∷ xs) x h k = by (is_eq (R x y)) refl h (λ g. in_filter p xs x g k)
    where
      here : is_eq (R x y) ≡ true → In (filter p (y ∷ xs)) x ≡ true
      here e =
          let same : x ≡ y = exact x y (is_equal (R x y) e) in
          ap (λ (b : Bool). In (cond b (y ∷ filter p xs) (filter p xs)) x) (ap p (sym same) ∙ k) ∙ ap (λ (b : Bool). b || In (filter p xs) x) e

      later : (b : Bool) → In (filter p xs) x ≡ true → In (cond b (y ∷ filter p xs) (filter p xs)) x ≡ true
      later true m = either_second (is_eq (R x y)) (In (filter p xs) x) m
      later false m = m

      by : (b : Bool) → is_eq (R x y) ≡ b → (b || In xs x) ≡ true → (In xs x ≡ true → In (filter p xs) x ≡ true) → In (filter p (y ∷ xs)) x ≡ true
      by true e g more = here e
      by false e g more = later (p y) (more g)

  in_more : (y : K) (ys xs : List K) → AreIn R total exact ys xs → AreIn R total exact (y ∷ ys) xs
  in_more y ys xs h = all_mono (λ (x : K). In ys x ≡ true) (λ (x : K). In (y ∷ ys) x ≡ true) (λ x k. either_second (is_eq (R x y)) (In ys x) k) xs h

  in_itself : (xs : List K) → AreIn R total exact xs xs
  in_itself [] = tt
  in_itself (x ∷ xs) = (ap (λ (o : Ordering). is_eq o || In xs x) (tied_itself total x), in_more x xs xs (in_itself xs))

  all_in : (p : K → Bool) (us xs : List K) → AreIn R total exact us xs → AllByRecursion (λ (x : K). p x ≡ true) xs → AreIn R total exact (filter p us) xs
  all_in p us [] h k = tt
  all_in p us (x ∷ xs) h k = (in_filter p us x h.0 k.0, all_in p us xs h.1 k.1)

  -- the members of a rising list among those of another are that list
  members : (xs us : List K) → Rise R total exact xs → Rise R total exact us → AreIn R total exact us xs → filter (In xs) us ≡ xs
  members xs us a u m = same_rising R total exact (filter (In xs) us) xs (filter_rise (In xs) us u) a (all_pass (In xs) us) (all_in (In xs) us xs m (in_itself xs))

  -- a sum over the others is the same for functions that agree there
  pub parted : (f : K → ℕ) (xs us : List K) → Rise R total exact xs → Rise R total exact us → AreIn R total exact us xs → sum_over f us ≡ sum_over f xs + sum_over f (filter (λ u. not (In xs u)) us)
  parted f xs us a u m = split_sum (In xs) f us ∙ ap (λ (ys : List K). sum_over f ys + sum_over f (filter (λ u. not (In xs u)) us)) (members xs us a u m)

  pub others_same : (f g : K → ℕ) (xs us : List K) → ((x : K) → In xs x ≡ false → f x ≡ g x) → sum_over f (filter (λ u. not (In xs u)) us) ≡ sum_over g (filter (λ u. not (In xs u)) us)
  others_same f g xs us h =
      same_sums f g (filter (λ u. not (In xs u)) us)
      (all_mono (λ (x : K). not (In xs x) ≡ true) (λ (x : K). f x ≡ g x) (λ x k. h x (not_true (In xs x) k)) (filter (λ u. not (In xs u)) us) (all_pass (λ u. not (In xs u)) us))

  -- two functions that agree but at these
  pub exchange : (f g : K → ℕ) (xs us : List K) → Rise R total exact xs → Rise R total exact us → AreIn R total exact us xs → ((x : K) → In xs x ≡ false → f x ≡ g x) → sum_over f us + sum_over g xs ≡ sum_over g us + sum_over f xs
  exchange f g xs us a u m h =
      let one = parted f xs us a u m in
      let two = parted g xs us a u m in
      let same = others_same f g xs us h in
      omega arith
