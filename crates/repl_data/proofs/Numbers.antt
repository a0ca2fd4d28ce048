-- CSNs compare as numbers of 80 bits.
use Rattle.std.proofs.Common.{◌≡◌, ℕ, ◌+◌, ◌*◌, ◌^◌, ◌<◌, inl, inr, sym, ap, ◌∙◌, arith}
use Rattle.std.proofs.lemmas.Bool.{cases_lt}
use Rattle.std.proofs.Math.Nat.{mul-le-mul_left}
use native.Mathlib.Numerals.{unary_clauses}
use Rattle.std.specs.declared.cmp.Ordering.TheVariants.{Less, Equal, Greater}
use Rattle.std.specs.Ordering.{nat_cmp, ordering_then}
use Rattle.std.specs.Cmp.{nat_cmp_is}
use Rattle.repl_data.specs.declared.csn.Csn.{Csn}
use Rattle.repl_data.specs.Order.{csn_cmp, number_of}
use Rattle.repl_data.specs.Text.{IsInRange}

-- the high parts decide first
above : (base x y m n : ℕ) → m < base → x < y → base * x + m < base * y + n
above base x y m n small lt = let le = simp unary_clauses at (mul-le-mul_left base lt) in omega (arith, le)

same_high : (k m n : ℕ) → nat_cmp m n ≡ nat_cmp (k + m) (k + n)
same_high k m n =
    elim (cases_lt m n) [
      | inl lt ↦ sym (nat_cmp_is m n Less lt) ∙ nat_cmp_is (k + m) (k + n) Less (omega arith)
      | inr le ↦ elim (cases_lt n m) [
        | inl lt ↦ sym (nat_cmp_is m n Greater lt) ∙ nat_cmp_is (k + m) (k + n) Greater (omega arith)
        | inr ge ↦ sym (nat_cmp_is m n Equal (omega arith)) ∙ nat_cmp_is (k + m) (k + n) Equal (omega arith)
      ]
    ]

pair_cmp : (base x y m n : ℕ) → m < base → n < base → ordering_then (nat_cmp x y) (nat_cmp m n) ≡ nat_cmp (base * x + m) (base * y + n)
pair_cmp base x y m n small less =
    elim (cases_lt x y) [
      | inl lt ↦ ap (λ o. ordering_then o (nat_cmp m n)) (sym (nat_cmp_is x y Less lt)) ∙ nat_cmp_is _ _ Less (above base x y m n small lt)
      | inr le ↦ elim (cases_lt y x) [
        | inl lt ↦ ap (λ o. ordering_then o (nat_cmp m n)) (sym (nat_cmp_is x y Greater lt)) ∙ nat_cmp_is _ _ Greater (above base y x n m less lt)
        | inr ge ↦
            let e : x ≡ y = omega arith in
            ap (λ o. ordering_then o (nat_cmp m n)) (sym (nat_cmp_is x y Equal e)) ∙ same_high (base * x) m n ∙ ap (λ z. nat_cmp (base * x + m) (base * z + n)) e
      ]
    ]

pub csn_cmp-number_of : (a b : Csn) → IsInRange a → IsInRange b → csn_cmp a b ≡ nat_cmp (number_of a) (number_of b)
unfolding number_of
csn_cmp-number_of a b p q =
    let three = pair_cmp (2 ^ 16) a.rid b.rid a.sub b.sub p.sub q.sub in
    let two = pair_cmp (2 ^ 32) a.seq b.seq (2 ^ 16 * a.rid + a.sub) (2 ^ 16 * b.rid + b.sub) (omega (arith, p.rid, p.sub)) (omega (arith, q.rid, q.sub)) in
    let one = pair_cmp (2 ^ 48) a.time b.time (2 ^ 32 * a.seq + (2 ^ 16 * a.rid + a.sub)) (2 ^ 32 * b.seq + (2 ^ 16 * b.rid + b.sub)) (omega (arith, p.seq, p.rid, p.sub)) (omega (arith, q.seq, q.rid, q.sub)) in
    let at_a : 2 ^ 48 * a.time + (2 ^ 32 * a.seq + (2 ^ 16 * a.rid + a.sub)) ≡ number_of a = omega arith in
    let at_b : 2 ^ 48 * b.time + (2 ^ 32 * b.seq + (2 ^ 16 * b.rid + b.sub)) ≡ number_of b = omega arith in
    ap (λ o. ordering_then (nat_cmp a.time b.time) (ordering_then (nat_cmp a.seq b.seq) o)) three
    ∙ ap (λ o. ordering_then (nat_cmp a.time b.time) o) two ∙ one
    ∙ ap (λ n. nat_cmp n (2 ^ 48 * b.time + (2 ^ 32 * b.seq + (2 ^ 16 * b.rid + b.sub)))) at_a ∙ ap (λ n. nat_cmp (number_of a) n) at_b
