-- The CSNs of changes compare as their numbers do.
use Rattle.std.proofs.Common.{◌≡◌, ℕ, ◌<◌, ◌≤◌, ◌≢◌, inl, inr, true, false, refl, sym, ap, ◌∙◌, arith, nat_lt, ◌==◌, lt-ltb, le-ltb, eq-eqb, ne_eqb, nat_cmp, Less, Equal, Greater}
use Rattle.std.specs.Ordering.{is_lt}
use Rattle.std.proofs.lemmas.Bool.{cases_order, cases_lt, cases_Bool, true≢false}
use Rattle.repl_data.specs.declared.csn.Csn.{Csn}
use Rattle.repl_data.specs.Order.{csn_cmp, csn_lt, csn_le, csn_eq, zero_csn, number_of}
use Rattle.repl_data.proofs.Orders.{csn_exact}
use Rattle.repl_data.proofs.InOrder.{is_equal}
use Rattle.repl_data.proofs.CsnTests.{csn_le-from_not, csn_not-from_le}
use Rattle.node_core.specs.Sound.{IsPlain}

pub cmp_less : (x y : ℕ) → x < y → nat_cmp x y ≡ Less
cmp_less x y h = rw (lt-ltb x y h) refl

pub cmp_equal : (x y : ℕ) → x ≡ y → nat_cmp x y ≡ Equal
cmp_equal x y e = (let n : nat_lt x y ≡ false = le-ltb x y (omega arith) in let q : (x == y) ≡ true = eq-eqb x y e in rw (n, q) refl)

pub cmp_greater : (x y : ℕ) → y < x → nat_cmp x y ≡ Greater
cmp_greater x y h = (let n : nat_lt x y ≡ false = le-ltb x y (omega arith) in let q : (x == y) ≡ false = ne_eqb x y (λ e. omega arith) in rw (n, q) refl)

order_by_number : (a b : Csn) → IsPlain a → IsPlain b → csn_cmp a b ≡ nat_cmp (number_of a) (number_of b)
unfolding number_of
order_by_number a b pa pb =
    let s : a.seq < 65536 = pa.seq_fits in
    let s' : b.seq < 65536 = pb.seq_fits in
    let r : a.rid < 65536 = pa.rid_fits in
    let r' : b.rid < 65536 = pb.rid_fits in
    let u : a.sub ≡ 0 = pa.no_part in
    let u' : b.sub ≡ 0 = pb.no_part in
    elim (cases_order a.time b.time) [
      | inr (inl l) ↦ rw (cmp_less a.time b.time l) (sym (cmp_less (number_of a) (number_of b) (omega arith)))
      | inr (inr l) ↦ rw (cmp_greater a.time b.time l) (sym (cmp_greater (number_of a) (number_of b) (omega arith)))
      | inl e ↦
          rw (cmp_equal a.time b.time e)
          (elim (cases_order a.seq b.seq) [
            | inr (inl l) ↦ rw (cmp_less a.seq b.seq l) (sym (cmp_less (number_of a) (number_of b) (omega arith)))
            | inr (inr l) ↦ rw (cmp_greater a.seq b.seq l) (sym (cmp_greater (number_of a) (number_of b) (omega arith)))
            | inl f ↦
                rw (cmp_equal a.seq b.seq f)
                (elim (cases_order a.rid b.rid) [
                  | inr (inl l) ↦ rw (cmp_less a.rid b.rid l) (sym (cmp_less (number_of a) (number_of b) (omega arith)))
                  | inr (inr l) ↦ rw (cmp_greater a.rid b.rid l) (sym (cmp_greater (number_of a) (number_of b) (omega arith)))
                  | inl g ↦
                      rw (cmp_equal a.rid b.rid g)
                      (rw (cmp_equal a.sub b.sub (u ∙ sym u')) (sym (cmp_equal (number_of a) (number_of b) (omega arith))))
                ])
          ])
    ]

-- a test of two plain CSNs by their numbers, each way
pub number_lt : (a b : Csn) → IsPlain a → IsPlain b → number_of a < number_of b → csn_lt a b ≡ true
number_lt a b p q h = ap is_lt (order_by_number a b p q ∙ cmp_less (number_of a) (number_of b) h)

pub number_not_lt : (a b : Csn) → IsPlain a → IsPlain b → number_of b ≤ number_of a → csn_lt a b ≡ false
number_not_lt a b p q h =
    elim (cases_lt (number_of b) (number_of a)) [
      | inl l ↦ ap is_lt (order_by_number a b p q ∙ cmp_greater (number_of a) (number_of b) l)
      | inr l ↦ ap is_lt (order_by_number a b p q ∙ cmp_equal (number_of a) (number_of b) (omega arith))
    ]

pub lt_number : (a b : Csn) → IsPlain a → IsPlain b → csn_lt a b ≡ true → number_of a < number_of b
lt_number a b p q e =
    elim (cases_lt (number_of a) (number_of b)) [
      | inl l ↦ l
      | inr l ↦ absurd (true≢false (sym e ∙ number_not_lt a b p q l))
    ]

pub not_lt_number : (a b : Csn) → IsPlain a → IsPlain b → csn_lt a b ≡ false → number_of b ≤ number_of a
not_lt_number a b p q e =
    elim (cases_lt (number_of a) (number_of b)) [
      | inl l ↦ absurd (true≢false (sym (number_lt a b p q l) ∙ e))
      | inr l ↦ l
    ]

pub number_le : (a b : Csn) → IsPlain a → IsPlain b → number_of a ≤ number_of b → csn_le a b ≡ true
number_le a b p q h = csn_le-from_not a b (number_not_lt b a q p h)

pub le_number : (a b : Csn) → IsPlain a → IsPlain b → csn_le a b ≡ true → number_of a ≤ number_of b
le_number a b p q e = not_lt_number b a q p (csn_not-from_le a b e)

-- what tests as equal is the same
pub eq_same : (a b : Csn) → csn_eq a b ≡ true → a ≡ b
eq_same a b e = csn_exact a b (is_equal (csn_cmp a b) e)

pub number_of-zero : number_of zero_csn ≡ 0
unfolding number_of
number_of-zero = refl

pub number_of-above_0 : (c : Csn) → 0 < c.rid → 0 < number_of c
unfolding number_of
number_of-above_0 c h = omega arith

pub zero_plain : IsPlain zero_csn
zero_plain = record { seq_fits = omega arith; rid_fits = omega arith; no_part = refl }

-- two plain CSNs of one number are the same
pub plain_same : (a b : Csn) → IsPlain a → IsPlain b → number_of a ≡ number_of b → a ≡ b
plain_same a b p q e = csn_exact a b (order_by_number a b p q ∙ cmp_equal (number_of a) (number_of b) e)

pub plain_apart : (a b : Csn) → IsPlain a → IsPlain b → number_of a ≢ number_of b → csn_eq a b ≡ false
plain_apart a b p q d =
    elim (cases_Bool (csn_eq a b)) [ inl t ↦ absurd (d (ap number_of (eq_same a b t))) | inr f ↦ f ]

-- a number below that of a plain CSN is that of a CSN below it, plain or not
pub below_plain : (a b : Csn) → IsPlain b → number_of a < number_of b → csn_lt a b ≡ true
unfolding number_of
below_plain a b p h =
    let s : b.seq < 65536 = p.seq_fits in
    let r : b.rid < 65536 = p.rid_fits in
    let u : b.sub ≡ 0 = p.no_part in
    elim (cases_order a.time b.time) [
      | inr (inl l) ↦ rw (cmp_less a.time b.time l) refl
      | inr (inr l) ↦ absurd (omega arith)
      | inl e ↦
          rw (cmp_equal a.time b.time e)
          (elim (cases_order a.seq b.seq) [
            | inr (inl l) ↦ rw (cmp_less a.seq b.seq l) refl
            | inr (inr l) ↦ absurd (omega arith)
            | inl f ↦
                rw (cmp_equal a.seq b.seq f)
                (elim (cases_order a.rid b.rid) [
                  | inr (inl l) ↦ rw (cmp_less a.rid b.rid l) refl
                  | inr (inr l) ↦ absurd (omega arith)
                  | inl g ↦ absurd (omega arith)
                ])
          ])
    ]
