-- COUNTS of two lists of entries, in order of id, that differ at some entries alone.
use Rattle.std.proofs.Common.{◌≡◌, ℕ, ◌+◌, Bool, true, false, ◌||◌, cond, List, [], ◌∷◌, ◌++◌, map, Option, Some, None, refl, ap, ◌∙◌, arith}
use Rattle.std.specs.Prelude.{find, count_by}
use Rattle.std.specs.List.{AllByRecursion}
use Rattle.std.specs.Ordering.{is_eq}
use Rattle.std.specs.declared.cmp.Ordering.{Ordering}
use Rattle.std.specs.declared.cmp.Ordering.TheVariants.{Less}
use Rattle.std.proofs.lemmas.Cmp.{tied_itself}
use Rattle.std.proofs.lemmas.List.Sums.{sum_by-cons}
use Rattle.repl_data.specs.declared.csn.Uid.{Uid}
use Rattle.repl_data.specs.Order.{uid_cmp, uid_eq, in_order}
use Rattle.repl_data.proofs.Bools.{either_second}
use Rattle.repl_data.proofs.Orders.{uid_total, uid_exact}
use Rattle.repl_data.proofs.InOrder.{in_order_by-Rises, any-in_order_by}
use Rattle.repl_data.proofs.Known.{eq_turned}
use Rattle.urp_tree.proofs.Rising.{Rise, is_in, AreIn}
use Rattle.view_counts.proofs.Sums.{sum_over, same_sums, exchange}

abbrev pub Up : List Uid → Type 0
Up us = Rise uid_cmp uid_total uid_exact us

abbrev pub In : List Uid → Uid → Bool
In us u = is_in uid_cmp uid_total uid_exact us u

abbrev pub AreOf : List Uid → List Uid → Type 0
AreOf us vs = AreIn uid_cmp uid_total uid_exact us vs

-- one, where there is an entry and it passes
abbrev pub tally : {X : Type 0} → (X → Bool) → Option X → ℕ
tally q None = 0
tally q (Some x) = cond (q x) 1 0

one_more : (v : Uid) (ws vs : List Uid) → AreOf ws vs → AreOf (v ∷ ws) vs
one_more v ws [] h = tt
one_more v ws (w ∷ vs) h = (either_second (uid_eq w v) (In ws w) h.0, one_more v ws vs h.1)

itself : (vs : List Uid) → AreOf vs vs
itself [] = tt
itself (v ∷ vs) = (ap (λ (o : Ordering). is_eq o || In vs v) (tied_itself uid_total v), one_more v vs vs (itself vs))

-- a list in order has its members
in_order_in : (us vs : List Uid) → AreOf us vs → AreOf (in_order uid_cmp us) vs
in_order_in us [] h = tt
in_order_in us (v ∷ vs) h = (any-in_order_by uid_cmp uid_total (λ (u : Uid). u) uid_exact (λ (u : Uid). is_eq (uid_cmp v u)) us ∙ h.0, in_order_in us vs h.1)

all_in_front : (vs : List Uid) → AreOf (in_order uid_cmp vs) vs
all_in_front vs = in_order_in vs vs (itself vs)

module _ {X : Type 0} (key : X → Uid) where
  abbrev pub ids : List X → List Uid
  ids xs = map key xs

  abbrev pub at : List X → Uid → Option X
  at xs u = find (λ (x : X). uid_eq (key x) u) xs

module _ {X : Type 0} (key : X → Uid) (q : X → Bool) where
  abbrev counted_at : List X → Uid → ℕ
  counted_at xs u = tally q (at key xs u)

  not_first : (x : X) (xs : List X) (u : Uid) → uid_cmp (key x) u ≡ Less → counted_at (x ∷ xs) u ≡ counted_at xs u
  not_first x xs u l = ap (λ (o : Ordering). tally q (cond (is_eq o) (Some x) (at key xs u))) l

  none_first : (x : X) (xs : List X) (us : List Uid) → AllByRecursion (λ (u : Uid). uid_cmp (key x) u ≡ Less) us → AllByRecursion (λ (u : Uid). counted_at (x ∷ xs) u ≡ counted_at xs u) us
  none_first x xs [] h = tt
  none_first x xs (u ∷ us) h = (not_first x xs u h.0, none_first x xs us h.1)

  -- each entry counts where it is found
  over_own : (xs : List X) → Up (ids key xs) → sum_over (counted_at xs) (ids key xs) ≡ count_by q xs
  over_own [] h = refl
  over_own (x ∷ xs) h =
      let first : counted_at (x ∷ xs) (key x) ≡ cond (q x) 1 0 = ap (λ (o : Ordering). tally q (cond (is_eq o) (Some x) (at key xs (key x)))) (tied_itself uid_total (key x)) in
      let rest : sum_over (counted_at (x ∷ xs)) (ids key xs) ≡ sum_over (counted_at xs) (ids key xs) = same_sums (counted_at (x ∷ xs)) (counted_at xs) (ids key xs) (none_first x xs (ids key xs) h.0) in
      let more = over_own xs h.1 in
      let all = sum_by-cons (λ (e : X). cond (q e) 1 0) x xs in
      omega arith

  -- who is none of them counts nothing
  nothing_at : (xs : List X) (u : Uid) → In (ids key xs) u ≡ false → counted_at xs u ≡ 0
  nothing_at [] u h = refl
  nothing_at (x ∷ xs) u h = by (uid_eq (key x) u) (eq_turned (key x) u) h (λ k. nothing_at xs u k)
    where
      by : (b : Bool) → b ≡ uid_eq u (key x) → (uid_eq u (key x) || In (ids key xs) u) ≡ false → (In (ids key xs) u ≡ false → counted_at xs u ≡ 0) → tally q (cond b (Some x) (at key xs u)) ≡ 0
      by true e k more = let f : true ≡ false = ap (λ (c : Bool). c || In (ids key xs) u) e ∙ k in absurd cc
      by false e k more = more (ap (λ (c : Bool). c || In (ids key xs) u) e ∙ k)

  nothing_over : (us : List Uid) → sum_over (λ u. 0) us ≡ 0
  nothing_over [] = refl
  nothing_over (u ∷ us) = let more = nothing_over us in omega arith

  pub counted : (xs : List X) (us : List Uid) → Up (ids key xs) → Up us → AreOf us (ids key xs) → sum_over (counted_at xs) us ≡ count_by q xs
  counted xs us a u m =
      let one = exchange uid_cmp uid_total uid_exact (counted_at xs) (λ u. 0) (ids key xs) us a u m (λ x k. nothing_at xs x k) in
      let none = nothing_over us in
      let none_there = nothing_over (ids key xs) in
      let own = over_own xs a in
      omega arith

  -- THE LAW: where the entries of two views are alike but at these, the counts differ by what these count
  pub moved : (xs ys : List X) (cs : List Uid) → Up (ids key xs) → Up (ids key ys) → Up cs → ((u : Uid) → In cs u ≡ false → counted_at xs u ≡ counted_at ys u)
      → count_by q xs + sum_over (counted_at ys) cs ≡ count_by q ys + sum_over (counted_at xs) cs
  moved xs ys cs a b c same =
      let us = in_order uid_cmp (ids key xs ++ (ids key ys ++ cs)) in
      let up : Up us = in_order_by-Rises uid_cmp uid_total (λ (u : Uid). u) (ids key xs ++ (ids key ys ++ cs)) in
      let whole = all_in_front (ids key xs ++ (ids key ys ++ cs)) in
      let one = counted xs us a up (in_us (ids key xs) (ids key ys ++ cs) us whole) in
      let two = counted ys us b up (in_us (ids key ys) cs us (behind (ids key xs) (ids key ys ++ cs) us whole)) in
      let three = exchange uid_cmp uid_total uid_exact (counted_at xs) (counted_at ys) cs us c up (behind (ids key ys) cs us (behind (ids key xs) (ids key ys ++ cs) us whole)) same in
      omega arith
    where
      in_us : (vs ws us : List Uid) → AreOf us (vs ++ ws) → AreOf us vs
      in_us [] ws us h = tt
      in_us (v ∷ vs) ws us h = (h.0, in_us vs ws us h.1)

      behind : (vs ws us : List Uid) → AreOf us (vs ++ ws) → AreOf us ws
      behind [] ws us h = h
      behind (v ∷ vs) ws us h = behind vs ws us h.1
