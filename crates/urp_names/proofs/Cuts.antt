-- WHERE A LIST IS CUT by a search by halves, and what is put or removed there.
use Rattle.std.proofs.Common.{◌≡◌, ℕ, zero, suc, ◌<◌, ◌≤◌, List, [], ◌∷◌, length, get_or, take, Bool, true, false, cond, not, Option, Some, None, refl, sym, ap, subst, ◌∙◌, arith, inl, inr}
use Rattle.std.specs.Prelude.{◌⊎◌, ◌||◌, insert, remove, slice_get, filter}
use Rattle.std.specs.List.{AllByRecursion, list_any}
use Rattle.std.specs.List.Sorted.{IsPartitionedBy}
use Rattle.std.specs.declared.cmp.Ordering.{Ordering}
use Rattle.std.specs.declared.cmp.Ordering.TheVariants.{Less, Equal, Greater}
use Rattle.std.specs.Ordering.{is_eq, is_lt, ordering_reverse}
use Rattle.std.specs.Cmp.{IsTotalOrder}
use Rattle.std.proofs.lemmas.Cmp.{tied_itself}
use Rattle.repl_data.specs.Order.{put_by, by_order}
use Rattle.repl_data.proofs.Orders.{split}
use Rattle.repl_data.proofs.Loops.{all_filter}
use Rattle.urp_names.specs.declared.contenders.Contender.{Contender}
use Rattle.urp_names.specs.Contending.{IsOneOf, IsCut}

-- FROM A COUNT
pub cut_from : (p : Contender → Bool) (cs : List Contender) (n : ℕ) → ((i : ℕ) (d : Contender) → i < n → p (get_or cs i d) ≡ true) → n ≤ length cs → ((i : ℕ) (d : Contender) → n ≤ i → i < length cs → p (get_or cs i d) ≡ false) → IsCut p cs n
cut_from p [] zero b l a = tt
cut_from p [] (suc n) b l a = let f : suc n ≤ 0 = l in absurd (omega arith)
cut_from p (c ∷ cs) zero b l a = (a 0 c (omega arith) (omega arith), cut_from p cs zero (λ i d m. absurd (omega arith)) (omega arith) (λ i d m k. a (suc i) d (omega arith) (omega arith)))
cut_from p (c ∷ cs) (suc n) b l a = (b 0 c (omega arith), cut_from p cs n (λ i d m. b (suc i) d (omega arith)) (omega arith) (λ i d m k. a (suc i) d (omega arith) (omega arith)))

-- pairs of an earlier and a later one
abbrev pub Pairs : (Contender → Contender → Type 0) → List Contender → Type 0
Pairs Q [] = Unit {0}
Pairs Q (c ∷ cs) = AllByRecursion (Q c) cs × Pairs Q cs

pub parted : (Q : Contender → Contender → Type 0) (p : Contender → Bool) → ((c d : Contender) → Q c d → p d ≡ true → p c ≡ true) → (cs : List Contender) → Pairs Q cs → IsPartitionedBy p cs
parted Q p h cs r = λ i j d le l k. below cs r i j d le l k
  where
    first : (c : Contender) (cs : List Contender) (j : ℕ) (d : Contender) → AllByRecursion (Q c) cs → j < length cs → p (get_or cs j d) ≡ true → p c ≡ true
    first c [] j d r l k = let f : j < 0 = l in absurd (omega arith)
    first c (x ∷ xs) zero d r l k = h c x r.0 k
    first c (x ∷ xs) (suc j) d r l k = first c xs j d r.1 (omega arith) k

    below : (cs : List Contender) → Pairs Q cs → (i j : ℕ) (d : Contender) → i ≤ j → j < length cs → p (get_or cs j d) ≡ true → p (get_or cs i d) ≡ true
    below [] r i j d le l k = let f : j < 0 = l in absurd (omega arith)
    below (c ∷ cs) r zero zero d le l k = k
    below (c ∷ cs) r zero (suc j) d le l k = first c cs j d r.0 (omega arith) k
    below (c ∷ cs) r (suc i) zero d le l k = absurd (omega arith)
    below (c ∷ cs) r (suc i) (suc j) d le l k = below cs r.1 i j d (omega arith) (omega arith) k

-- THE FRONT of a cut
pub front_has : (p : Contender → Bool) (cs : List Contender) (n : ℕ) → IsCut p cs n → AllByRecursion (λ (c : Contender). p c ≡ true) (take n cs)
front_has p [] zero h = tt
front_has p [] (suc n) h = elim h [ ]
front_has p (c ∷ cs) zero h = tt
front_has p (c ∷ cs) (suc n) h = (h.0, front_has p cs n h.1)

none_behind : (p : Contender → Bool) (cs : List Contender) (c : Contender) → IsCut p cs zero → IsOneOf c cs → p c ≡ false
none_behind p [] c h m = elim m [ ]
none_behind p (d ∷ ds) c h (inl e) = ap p e ∙ h.0
none_behind p (d ∷ ds) c h (inr m) = none_behind p ds c h.1 m

pub in_front : (p : Contender → Bool) (cs : List Contender) (n : ℕ) (c : Contender) → IsCut p cs n → IsOneOf c cs → p c ≡ true → IsOneOf c (take n cs)
in_front p [] n c h m k = elim m [ ]
in_front p (d ∷ ds) zero c h m k = let f : true ≡ false = sym k ∙ none_behind p (d ∷ ds) c h m in cc
in_front p (d ∷ ds) (suc n) c h (inl e) k = inl e
in_front p (d ∷ ds) (suc n) c h (inr m) k = inr (in_front p ds n c h.1 m k)

pub all_front : (P : Contender → Type 0) (cs : List Contender) (n : ℕ) → AllByRecursion P cs → AllByRecursion P (take n cs)
all_front P [] zero h = tt
all_front P [] (suc n) h = tt
all_front P (c ∷ cs) zero h = tt
all_front P (c ∷ cs) (suc n) h = (h.0, all_front P cs n h.1)

-- LISTS IN ORDER OF A KEY
module _ {K : Type 0} (R : K → K → Ordering) (total : IsTotalOrder R) (key : Contender → K) where
  abbrev pub put_in : Contender → List Contender → List Contender
  put_in = put_by key R

  abbrev pub Rises : List Contender → Type 0
  Rises cs = Pairs (λ (c d : Contender). R (key c) (key d) ≡ Less) cs

  -- none has the key of c
  abbrev pub IsFresh : Contender → List Contender → Type 0
  IsFresh c cs = AllByRecursion (λ (d : Contender). is_eq (R (key c) (key d)) ≡ false) cs

  abbrev pub below : Contender → Contender → Bool
  below c d = is_lt (R (key d) (key c))

  back : (c d : Contender) (o : Ordering) → R (key c) (key d) ≡ o → R (key d) (key c) ≡ ordering_reverse o
  back c d o h = total.antisymm (key d) (key c) ∙ ap ordering_reverse h

  put_step : (c d : Contender) (ds : List Contender) (o : Ordering) → R (key c) (key d) ≡ o → put_in c (d ∷ ds) ≡ by_order o (c ∷ d ∷ ds) (c ∷ ds) (d ∷ put_in c ds)
  put_step c d ds o h = ap (λ p. by_order p (c ∷ d ∷ ds) (c ∷ ds) (d ∷ put_in c ds)) h

  -- what is below stands in front
  pub below_first : (c x y : Contender) → R (key x) (key y) ≡ Less → below c y ≡ true → below c x ≡ true
  below_first c x y h k = ap is_lt (total.trans (key x) (key y) (key c) h (less (R (key y) (key c)) k))
    where
      less : (o : Ordering) → is_lt o ≡ true → o ≡ Less
      less Less e = refl
      less Equal e = let f : false ≡ true = e in cc
      less Greater e = let f : false ≡ true = e in cc

  greater : (c d : Contender) → below c d ≡ true → R (key c) (key d) ≡ Greater
  greater c d h = split (R (key c) (key d))
      (λ e. let f : false ≡ true = ap is_lt (sym (back c d Less e)) ∙ h in cc)
      (λ e. let f : false ≡ true = ap is_lt (sym (back c d Equal e)) ∙ h in cc)
      (λ e. e)

  pub less : (c d : Contender) → below c d ≡ false → is_eq (R (key c) (key d)) ≡ false → R (key c) (key d) ≡ Less
  less c d h g = split (R (key c) (key d))
      (λ e. e)
      (λ e. let f : true ≡ false = sym (ap is_eq e) ∙ g in cc)
      (λ e. let f : true ≡ false = sym (ap is_lt (back c d Greater e)) ∙ h in cc)

  -- one more goes to the cut
  pub put_fresh : (c : Contender) (cs : List Contender) (n : ℕ) → IsFresh c cs → IsCut (below c) cs n → put_in c cs ≡ insert cs n c
  put_fresh c [] zero f h = refl
  put_fresh c [] (suc n) f h = elim h [ ]
  put_fresh c (d ∷ ds) zero f h = put_step c d ds Less (less c d h.0 f.0)
  put_fresh c (d ∷ ds) (suc n) f h = put_step c d ds Greater (greater c d h.0) ∙ ap (λ r. d ∷ r) (put_fresh c ds n f.1 h.1)

  itself : (c : Contender) → below c c ≡ false
  itself c = ap is_lt (tied_itself total (key c))

  -- and is taken out there
  pub taken_out : (c : Contender) (cs : List Contender) (n : ℕ) → IsFresh c cs → IsCut (below c) (put_in c cs) n → (n < length (put_in c cs)) × (remove (put_in c cs) n ≡ cs)
  taken_out c [] zero f h = (omega arith, refl)
  taken_out c [] (suc n) f h = let e : false ≡ true = sym (itself c) ∙ h.0 in cc
  taken_out c (d ∷ ds) zero f h =
      split (R (key c) (key d))
      (λ e. subst (λ xs. (zero < length xs) × (remove xs zero ≡ d ∷ ds)) (sym (put_step c d ds Less e)) (omega arith, refl))
      (λ e. let k : true ≡ false = sym (ap is_eq e) ∙ f.0 in cc)
      (λ e. let k : below c d ≡ false = (subst (λ xs. IsCut (below c) xs zero) (put_step c d ds Greater e) h).0 in
      let g : true ≡ false = sym (ap is_lt (back c d Greater e)) ∙ k in cc)
  taken_out c (d ∷ ds) (suc n) f h =
      split (R (key c) (key d))
      (λ e. let k : below c c ≡ true = (subst (λ xs. IsCut (below c) xs (suc n)) (put_step c d ds Less e) h).0 in
      let g : false ≡ true = sym (itself c) ∙ k in cc)
      (λ e. let k : true ≡ false = sym (ap is_eq e) ∙ f.0 in cc)
      (λ e. let more = taken_out c ds n f.1 (subst (λ xs. IsCut (below c) xs (suc n)) (put_step c d ds Greater e) h).1 in
      let l : n < length (put_in c ds) = more.0 in
      subst (λ xs. (suc n < length xs) × (remove xs (suc n) ≡ d ∷ ds)) (sym (put_step c d ds Greater e)) (omega (arith, l), ap (λ r. d ∷ r) more.1))

  pub all_put : (P : Contender → Type 0) (c : Contender) (cs : List Contender) → P c → AllByRecursion P cs → AllByRecursion P (put_in c cs)
  all_put P c [] p h = (p, tt)
  all_put P c (d ∷ ds) p h = by (all_put P c ds p h.1) (R (key c) (key d))
    where
      by : AllByRecursion P (put_in c ds) → (o : Ordering) → AllByRecursion P (by_order o (c ∷ d ∷ ds) (c ∷ ds) (d ∷ put_in c ds))
      by more Less = (p, h)
      by more Equal = (p, h.1)
      by more Greater = (h.0, more)

  pub put_above : (c : Contender) (cs : List Contender) → AllByRecursion (λ (d : Contender). R (key c) (key d) ≡ Less) cs → put_in c cs ≡ c ∷ cs
  put_above c [] h = refl
  put_above c (d ∷ ds) h = put_step c d ds Less h.0

  above_all : (c d : Contender) (ds : List Contender) → R (key c) (key d) ≡ Less → AllByRecursion (λ (e : Contender). R (key d) (key e) ≡ Less) ds → AllByRecursion (λ (e : Contender). R (key c) (key e) ≡ Less) ds
  above_all c d [] h g = tt
  above_all c d (e ∷ es) h g = (total.trans (key c) (key d) (key e) h g.0, above_all c d es h g.1)

  pub rises_kept : (p : Contender → Bool) (cs : List Contender) → Rises cs → Rises (filter p cs)
  rises_kept p [] h = tt
  rises_kept p (c ∷ cs) h = by (p c) (rises_kept p cs h.1)
    where
      by : (b : Bool) → Rises (filter p cs) → Rises (cond b (c ∷ filter p cs) (filter p cs))
      by true more = (all_filter (λ (d : Contender). R (key c) (key d) ≡ Less) p cs h.0, more)
      by false more = more

  -- a choice of what was put to its place
  module _ (p : Contender → Bool) (alike : (c d : Contender) → R (key c) (key d) ≡ Equal → p c ≡ p d) where
    abbrev put_if : Bool → Contender → List Contender → List Contender
    put_if b c cs = cond b (put_in c cs) cs

    pub filter_put : (c : Contender) (cs : List Contender) → Rises cs → filter p (put_in c cs) ≡ put_if (p c) c (filter p cs)
    filter_put c [] r = by (p c)
      where
        by : (b : Bool) → cond b (c ∷ []) [] ≡ put_if b c []
        by true = refl
        by false = refl
    filter_put c (d ∷ ds) r =
        split (R (key c) (key d))
        (λ e. ap (filter p) (put_step c d ds Less e) ∙ before e (p c))
        (λ e. ap (filter p) (put_step c d ds Equal e) ∙ instead e (p c) (p d) (alike c d e))
        (λ e. ap (filter p) (put_step c d ds Greater e) ∙ behind e (p c) (p d) (filter_put c ds r.1))
      where
        before : R (key c) (key d) ≡ Less → (b : Bool) → cond b (c ∷ filter p (d ∷ ds)) (filter p (d ∷ ds)) ≡ put_if b c (filter p (d ∷ ds))
        before e true = sym (put_above c (filter p (d ∷ ds)) (all_filter (λ (x : Contender). R (key c) (key x) ≡ Less) p (d ∷ ds) (e, above_all c d ds e r.0)))
        before e false = refl

        instead : R (key c) (key d) ≡ Equal → (a b : Bool) → a ≡ b → cond a (c ∷ filter p ds) (filter p ds) ≡ put_if a c (cond b (d ∷ filter p ds) (filter p ds))
        instead e true true h = sym (put_step c d (filter p ds) Equal e)
        instead e true false h = let f : true ≡ false = h in cc
        instead e false true h = let f : false ≡ true = h in cc
        instead e false false h = refl

        behind : R (key c) (key d) ≡ Greater → (a b : Bool) → filter p (put_in c ds) ≡ put_if a c (filter p ds) → cond b (d ∷ filter p (put_in c ds)) (filter p (put_in c ds)) ≡ put_if a c (cond b (d ∷ filter p ds) (filter p ds))
        behind e true true more = ap (λ xs. d ∷ xs) more ∙ sym (put_step c d (filter p ds) Greater e)
        behind e true false more = more
        behind e false true more = ap (λ xs. d ∷ xs) more
        behind e false false more = more
