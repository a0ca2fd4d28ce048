-- The tests by which CSNs are compared.
use Rattle.std.proofs.Common.{◌≡◌, ℕ, true, false, inl, inr, refl, sym, ap, subst, ◌∙◌, not, ◌<◌, arith}
use Rattle.std.proofs.lemmas.Cmp.{tied_itself, ranked}
use Rattle.std.proofs.lemmas.Bool.{cases_Bool}
use Rattle.std.specs.declared.cmp.Ordering.{Ordering}
use Rattle.std.specs.declared.cmp.Ordering.TheVariants.{Less, Equal, Greater}
use Rattle.std.specs.Ordering.{nat_cmp, ordering_then, ordering_reverse, is_lt, is_le, is_ge, is_gt, is_eq}
use Rattle.repl_data.specs.declared.csn.Csn.{Csn}
use Rattle.repl_data.specs.Order.{csn_cmp, csn_lt, csn_le, csn_eq, zero_csn}
use Rattle.repl_data.proofs.Orders.{csn_total, csn_exact}
use Rattle.repl_data.proofs.KeyPlaces.{is_less}

-- tests of an ordering
both_not : (o : Ordering) → is_lt o ≡ false → is_lt (ordering_reverse o) ≡ false → o ≡ Equal
both_not Less e f = absurd cc
both_not Equal e f = refl
both_not Greater e f = absurd cc

le_is : (o : Ordering) → is_le o ≡ not (is_lt (ordering_reverse o))
le_is Less = refl
le_is Equal = refl
le_is Greater = refl

one_way : (o : Ordering) → is_lt o ≡ true → is_lt (ordering_reverse o) ≡ false
one_way Less e = refl
one_way Equal e = refl
one_way Greater e = absurd cc

pub csn_lt-irreflexive : (a : Csn) → csn_lt a a ≡ false
csn_lt-irreflexive a = ap is_lt (tied_itself csn_total a)

pub csn_lt-trans : (a b c : Csn) → csn_lt a b ≡ true → csn_lt b c ≡ true → csn_lt a c ≡ true
csn_lt-trans a b c p q = ap is_lt (csn_total.trans a b c (is_less (csn_cmp a b) p) (is_less (csn_cmp b c) q))

pub csn_lt-one_way : (a b : Csn) → csn_lt a b ≡ true → csn_lt b a ≡ false
csn_lt-one_way a b p = ap is_lt (csn_total.antisymm b a) ∙ one_way (csn_cmp a b) p

pub csn_lt-connected : (a b : Csn) → csn_lt a b ≡ false → csn_lt b a ≡ false → a ≡ b
csn_lt-connected a b p q = csn_exact a b (both_not (csn_cmp a b) p (ap is_lt (sym (csn_total.antisymm b a)) ∙ q))

pub csn_le-not : (a b : Csn) → csn_le a b ≡ not (csn_lt b a)
csn_le-not a b = le_is (csn_cmp a b) ∙ ap (λ o. not (is_lt o)) (sym (csn_total.antisymm b a))

pub csn_le-from_not : (a b : Csn) → csn_lt b a ≡ false → csn_le a b ≡ true
csn_le-from_not a b e = csn_le-not a b ∙ ap not e

pub csn_not-from_le : (a b : Csn) → csn_le a b ≡ true → csn_lt b a ≡ false
csn_not-from_le a b e = elim (cases_Bool (csn_lt b a)) [ inl t ↦ (let h : false ≡ true = sym (csn_le-not a b ∙ ap not t) ∙ e in absurd cc) | inr f ↦ f ]

-- below what is at most c is below c
pub csn_lt-le_trans : (a b c : Csn) → csn_lt a b ≡ true → csn_lt c b ≡ false → csn_lt a c ≡ true
csn_lt-le_trans a b c p q =
    elim (cases_Bool (csn_lt a c)) [
      | inl t ↦ t
      | inr f ↦
          elim (cases_Bool (csn_lt c a)) [
            | inl g ↦ (let h : csn_lt c b ≡ true = csn_lt-trans c a b g p in absurd cc)
            | inr g ↦ (let e : a ≡ c = csn_lt-connected a c f g in let h : csn_lt c b ≡ true = subst (λ z. csn_lt z b ≡ true) e p in absurd cc)
          ]
    ]

pub csn_le-lt_trans : (a b c : Csn) → csn_lt b a ≡ false → csn_lt b c ≡ true → csn_lt a c ≡ true
csn_le-lt_trans a b c p q =
    elim (cases_Bool (csn_lt a c)) [
      | inl t ↦ t
      | inr f ↦
          elim (cases_Bool (csn_lt c a)) [
            | inl g ↦ (let h : csn_lt b a ≡ true = csn_lt-trans b c a q g in absurd cc)
            | inr g ↦ (let e : a ≡ c = csn_lt-connected a c f g in let h : csn_lt b a ≡ true = subst (λ z. csn_lt b z ≡ true) (sym e) q in absurd cc)
          ]
    ]

nat_not : (n : ℕ) → is_lt (nat_cmp n 0) ≡ false
nat_not n = by_answer (nat_cmp n 0) refl
  where
    by_answer : (o : Ordering) → o ≡ nat_cmp n 0 → is_lt o ≡ false
    by_answer Less e = (let l : n < 0 = ranked n 0 Less e in absurd (omega arith))
    by_answer Equal e = refl
    by_answer Greater e = refl

then_not : (p q : Ordering) → is_lt p ≡ false → is_lt q ≡ false → is_lt (ordering_then p q) ≡ false
then_not Less q e f = e
then_not Equal q e f = f
then_not Greater q e f = refl

-- nothing is below zero
pub csn_lt-zero : (c : Csn) → csn_lt c zero_csn ≡ false
csn_lt-zero c =
    then_not (nat_cmp c.time 0) _ (nat_not c.time)
    (then_not (nat_cmp c.seq 0) _ (nat_not c.seq)
    (then_not (nat_cmp c.rid 0) _ (nat_not c.rid) (nat_not c.sub)))

pub csn_lt-from_not_zero : (c : Csn) → (c ≡ zero_csn → ⊥) → csn_lt zero_csn c ≡ true
csn_lt-from_not_zero c h = elim (cases_Bool (csn_lt zero_csn c)) [ inl t ↦ t | inr f ↦ absurd (h (csn_lt-connected c zero_csn (csn_lt-zero c) f)) ]

pub ge_is : (o : Ordering) → is_ge o ≡ true → is_lt o ≡ false
ge_is Less e = absurd cc
ge_is Equal e = refl
ge_is Greater e = refl

pub ge_is_not : (o : Ordering) → is_ge o ≡ false → is_lt o ≡ true
ge_is_not Less e = refl
ge_is_not Equal e = absurd cc
ge_is_not Greater e = absurd cc

gt_not : (o : Ordering) → is_lt o ≡ false → is_gt o ≡ false → o ≡ Equal
gt_not Less e f = absurd cc
gt_not Equal e f = refl
gt_not Greater e f = absurd cc

pub zero_from_not_gt : (c : Csn) → is_gt (csn_cmp c zero_csn) ≡ false → c ≡ zero_csn
zero_from_not_gt c h = csn_exact c zero_csn (gt_not (csn_cmp c zero_csn) (csn_lt-zero c) h)

pub not_zero_from_gt : (c : Csn) → is_gt (csn_cmp c zero_csn) ≡ true → c ≡ zero_csn → ⊥
not_zero_from_gt c h e = let f : is_gt (csn_cmp zero_csn zero_csn) ≡ true = subst (λ z. is_gt (csn_cmp z zero_csn) ≡ true) e h in absurd cc

not_eq_lt : (o : Ordering) → is_lt o ≡ true → is_eq o ≡ false
not_eq_lt Less e = refl
not_eq_lt Equal e = absurd cc
not_eq_lt Greater e = refl

not_eq_gt : (o : Ordering) → is_lt (ordering_reverse o) ≡ true → is_eq o ≡ false
not_eq_gt Less e = refl
not_eq_gt Equal e = absurd cc
not_eq_gt Greater e = refl

pub csn_eq-not_lt : (a b : Csn) → csn_lt a b ≡ true → csn_eq a b ≡ false
csn_eq-not_lt a b e = not_eq_lt (csn_cmp a b) e

pub csn_eq-not_gt : (a b : Csn) → csn_lt b a ≡ true → csn_eq a b ≡ false
csn_eq-not_gt a b e = not_eq_gt (csn_cmp a b) (ap is_lt (sym (csn_total.antisymm b a)) ∙ e)

pub csn_eq-same : (a : Csn) → csn_eq a a ≡ true
csn_eq-same a = ap is_eq (tied_itself csn_total a)
