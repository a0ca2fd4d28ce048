-- Keys are in the order of their CSNs: digits that are compared from the highest on compare as the numbers.
use Rattle.std.proofs.Common.{◌≡◌, ℕ, ◌+◌, ◌*◌, ◌/◌, ◌%◌, ◌^◌, ◌<◌, List, [], ◌++◌, inl, inr, refl, sym, ap, ◌∙◌, arith}
use Rattle.std.specs.Int.{w16, w32, to_be_bytes}
use Rattle.std.proofs.lemmas.Bool.{cases_lt}
use Rattle.std.specs.declared.cmp.Ordering.{Ordering}
use Rattle.std.specs.declared.cmp.Ordering.TheVariants.{Less, Equal, Greater}
use Rattle.std.specs.Ordering.{nat_cmp, ordering_then}
use Rattle.std.specs.Cmp.{nat_cmp_is}
use Rattle.repl_data.specs.Order.{bytes_cmp}
use Rattle.row_bytes.specs.Laws.{AreInOrder}

then_assoc : (a b c : Ordering) → ordering_then (ordering_then a b) c ≡ ordering_then a (ordering_then b c)
then_assoc Less b c = refl
then_assoc Equal b c = refl
then_assoc Greater b c = refl

less : (x y : ℕ) → x < y → nat_cmp x y ≡ Less
less x y lt = sym (nat_cmp_is x y Less lt)

more : (x y : ℕ) → y < x → nat_cmp x y ≡ Greater
more x y lt = sym (nat_cmp_is x y Greater lt)

even : (x y : ℕ) → x ≡ y → nat_cmp x y ≡ Equal
even x y e = sym (nat_cmp_is x y Equal e)

last : (x y m n : ℕ) → x ≡ y → nat_cmp m n ≡ nat_cmp (256 * x + m) (256 * y + n)
last x y m n e =
    elim (cases_lt m n) [
      | inl lt ↦ less m n lt ∙ sym (less (256 * x + m) (256 * y + n) (omega arith))
      | inr le ↦ elim (cases_lt n m) [
        | inl lt ↦ more m n lt ∙ sym (more (256 * x + m) (256 * y + n) (omega arith))
        | inr ge ↦ (let s : m ≡ n = omega arith in even m n s ∙ sym (even (256 * x + m) (256 * y + n) (omega arith)))
      ]
    ]

-- two digits compare as the number that they spell
pair : (x y m n : ℕ) → m < 256 → n < 256 → ordering_then (nat_cmp x y) (nat_cmp m n) ≡ nat_cmp (256 * x + m) (256 * y + n)
pair x y m n p q =
    elim (cases_lt x y) [
      | inl lt ↦ ap (λ o. ordering_then o (nat_cmp m n)) (less x y lt) ∙ sym (less (256 * x + m) (256 * y + n) (omega arith))
      | inr le ↦ elim (cases_lt y x) [
        | inl lt ↦ ap (λ o. ordering_then o (nat_cmp m n)) (more x y lt) ∙ sym (more (256 * x + m) (256 * y + n) (omega arith))
        | inr ge ↦ (let s : x ≡ y = omega arith in ap (λ o. ordering_then o (nat_cmp m n)) (even x y s) ∙ last x y m n s)
      ]
    ]

-- the same before what is compared next
pair_then : (x y m n : ℕ) (o : Ordering) → m < 256 → n < 256 → ordering_then (nat_cmp x y) (ordering_then (nat_cmp m n) o) ≡ ordering_then (nat_cmp (256 * x + m) (256 * y + n)) o
pair_then x y m n o p q = sym (then_assoc (nat_cmp x y) (nat_cmp m n) o) ∙ ap (λ r. ordering_then r o) (pair x y m n p q)

-- the same with what the digits spell
pair_is : (x y m n a b : ℕ) (o : Ordering) → m < 256 → n < 256 → 256 * x + m ≡ a → 256 * y + n ≡ b → ordering_then (nat_cmp x y) (ordering_then (nat_cmp m n) o) ≡ ordering_then (nat_cmp a b) o
pair_is x y m n a b o p q e f =
    pair_then x y m n o p q ∙ ap (λ k. ordering_then (nat_cmp k (256 * y + n)) o) e ∙ ap (λ k. ordering_then (nat_cmp a k) o) f

low : (n : ℕ) → n % 256 < 256
low n = omega arith

spells_two : (n : ℕ) → n < 2 ^ 16 → 256 * (n / 256 % 256) + n % 256 ≡ n
spells_two n p = omega arith

pub bytes_two : (m n : ℕ) (xs ys : List ℕ) → m < 2 ^ 16 → n < 2 ^ 16 → bytes_cmp (to_be_bytes w16 m ++ xs) (to_be_bytes w16 n ++ ys) ≡ ordering_then (nat_cmp m n) (bytes_cmp xs ys)
bytes_two m n xs ys p q = pair_is (m / 256 % 256) (n / 256 % 256) (m % 256) (n % 256) m n (bytes_cmp xs ys) (low m) (low n) (spells_two m p) (spells_two n q)

-- the number without its last digit, and the digit
spells_high : (n : ℕ) → n < 2 ^ 32 → 256 * (n / 16777216 % 256) + n / 65536 % 256 ≡ n / 65536
spells_high n p = omega arith

spells_more : (n : ℕ) → n < 2 ^ 32 → 256 * (n / 65536) + n / 256 % 256 ≡ n / 256
spells_more n p = omega arith

spells_all : (n : ℕ) → 256 * (n / 256) + n % 256 ≡ n
spells_all n = omega arith

pub bytes_four : (m n : ℕ) (xs ys : List ℕ) → m < 2 ^ 32 → n < 2 ^ 32 → bytes_cmp (to_be_bytes w32 m ++ xs) (to_be_bytes w32 n ++ ys) ≡ ordering_then (nat_cmp m n) (bytes_cmp xs ys)
bytes_four m n xs ys p q =
    let o = bytes_cmp xs ys in
    let r = ordering_then (nat_cmp (m % 256) (n % 256)) o in
    let s = ordering_then (nat_cmp (m / 256 % 256) (n / 256 % 256)) r in
    pair_is (m / 16777216 % 256) (n / 16777216 % 256) (m / 65536 % 256) (n / 65536 % 256) (m / 65536) (n / 65536) s (low (m / 65536)) (low (n / 65536)) (spells_high m p) (spells_high n q)
    ∙ pair_is (m / 65536) (n / 65536) (m / 256 % 256) (n / 256 % 256) (m / 256) (n / 256) r (low (m / 256)) (low (n / 256)) (spells_more m p) (spells_more n q)
    ∙ pair_is (m / 256) (n / 256) (m % 256) (n % 256) m n o (low m) (low n) (spells_all m) (spells_all n)

then_equal : (a : Ordering) → ordering_then a Equal ≡ a
then_equal Less = refl
then_equal Equal = refl
then_equal Greater = refl

pub in_order : AreInOrder
in_order a b p q =
    let sub = ap (λ o. ordering_then (nat_cmp a.rid b.rid) o) (bytes_two a.sub b.sub [] [] p.sub q.sub ∙ then_equal (nat_cmp a.sub b.sub)) in
    let rid = ap (λ o. ordering_then (nat_cmp a.seq b.seq) o) (bytes_two a.rid b.rid (to_be_bytes w16 a.sub) (to_be_bytes w16 b.sub) p.rid q.rid ∙ sub) in
    let seq = ap (λ o. ordering_then (nat_cmp a.time b.time) o) (bytes_two a.seq b.seq (to_be_bytes w16 a.rid ++ to_be_bytes w16 a.sub) (to_be_bytes w16 b.rid ++ to_be_bytes w16 b.sub) p.seq q.seq ∙ rid) in
    bytes_four a.time b.time (to_be_bytes w16 a.seq ++ to_be_bytes w16 a.rid ++ to_be_bytes w16 a.sub) (to_be_bytes w16 b.seq ++ to_be_bytes w16 b.rid ++ to_be_bytes w16 b.sub) p.time q.time ∙ seq
