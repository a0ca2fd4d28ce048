-- Numbers and the bytes that are their digits.
use Rattle.std.proofs.Common.{◌≡◌, ℕ, true, false, ltb, leb, zero, suc, ◌-◌, ◌+◌, ◌*◌, ◌<◌, ◌≤◌, ◌^◌, List, [], ◌∷◌, ◌++◌, length, take, replicate, refl, sym, ap, ◌∙◌, append_assoc, arith, length-append, inl, inr}
use Rattle.std.specs.Prelude.{pos, ◌-ℤ◌}
use Rattle.std.specs.Int.{w64, from_be_bytes, cast_signed}
use Rattle.std.specs.Int.Digits.{number_from_digits_after}
use Rattle.std.proofs.lemmas.Bool.{cases_lt, le-ltb}
use Rattle.std.proofs.lemmas.Bool.Decides.{nat_tests}
use Rattle.std.proofs.lemmas.Int.{ints}
use Rattle.std.proofs.lemmas.List.{length-take, length-replicate, take_all, take-append-le, append-nil, take-replicate}
use Rattle.ber_core.specs.Number.{IsBytes, number, least_number, sign_byte, integer}

-- ---- zeros

abbrev pub zeros : ℕ → List ℕ
zeros m = let none : ℕ = 0 in replicate m none

pub length_zeros : (m : ℕ) → length (zeros m) ≡ m
length_zeros m = let none : ℕ = 0 in length-replicate m none

pub number-zeros_append : (m : ℕ) (xs : List ℕ) → number (zeros m ++ xs) ≡ number xs
number-zeros_append zero xs = refl
number-zeros_append (suc m) xs = number-zeros_append m xs

pub IsBytes-zeros_append : (m : ℕ) (xs : List ℕ) → IsBytes xs → IsBytes (zeros m ++ xs)
IsBytes-zeros_append zero xs h i = h i
IsBytes-zeros_append (suc m) xs h zero = omega arith
IsBytes-zeros_append (suc m) xs h (suc i) = IsBytes-zeros_append m xs h i

-- ---- eight bytes

pub from_be_bytes-is_number : (xs : List ℕ) → length xs ≡ 8 → from_be_bytes w64 xs ≡ number xs
from_be_bytes-is_number (a ∷ b ∷ c ∷ d ∷ e ∷ f ∷ g ∷ h ∷ []) l = omega arith
from_be_bytes-is_number _ l = absurd (omega arith)

-- ---- the least number

after_grows : (m n : ℕ) (ys : List ℕ) → m ≤ n → number_from_digits_after 256 m (zeros (length ys)) ≤ number_from_digits_after 256 n ys
after_grows m n [] le = le
after_grows m n (y ∷ ys) le = after_grows (m * 256 + 0) (n * 256 + y) ys (omega arith)

zeros_least : (n : ℕ) (xs ys : List ℕ) → number_from_digits_after 256 n (xs ++ zeros (length ys)) ≤ number_from_digits_after 256 n (xs ++ ys)
zeros_least n [] ys = after_grows n n ys (omega arith)
zeros_least n (x ∷ xs) ys = zeros_least (n * 256 + x) xs ys

take_onto : (n : ℕ) (p q : List ℕ) → length p ≤ n → take n (p ++ q) ≡ p ++ take (n - length p) q
take_onto n [] q h = let k : n - length {A = ℕ} [] ≡ n = omega arith in rw k refl
take_onto zero (x ∷ p) q h = absurd (omega arith)
take_onto (suc n) (x ∷ p) q h =
    let k : suc n - length (x ∷ p) ≡ n - length p = omega arith in
    rw k (ap (λ (t : List ℕ). x ∷ t) (take_onto n p q (omega arith)))

-- the number of all n digits that come is at least that of the first ones
least_number-append_ge : (n : ℕ) (p r : List ℕ) → length p + length r ≤ n → least_number n p ≤ least_number n (p ++ r)
unfolding least_number
least_number-append_ge n p r le =
    let rest : List ℕ = r ++ zeros (n - length (p ++ r)) in
    let len : length rest ≡ n - length p = omega (arith, length-append r (zeros (n - length (p ++ r))), length_zeros (n - length (p ++ r)), length-append p r) in
    let all : (p ++ r) ++ zeros (n - length (p ++ r)) ≡ p ++ rest = append_assoc p r (zeros (n - length (p ++ r))) in
    let least : number (p ++ zeros (length rest)) ≤ number (p ++ rest) = zeros_least 0 p rest in
    omega (arith, ap number all, ap (λ (k : ℕ). number (p ++ zeros k)) len)

pub least_number_grows : (n : ℕ) (p q : List ℕ) → least_number n (take n p) ≤ least_number n (take n (p ++ q))
least_number_grows n p q =
    elim (cases_lt (length p) n) [
      | inr le ↦ rw (take-append-le n p q le) (omega arith)
      | inl lt ↦
          let few : take n p ≡ p = take_all n p (omega arith) in
          let onto : take n (p ++ q) ≡ p ++ take (n - length p) q = take_onto n p q (omega arith) in
          let ge = least_number-append_ge n p (take (n - length p) q) (omega (arith, length-take (n - length p) q)) in
          omega (arith, ap (least_number n) few, ap (least_number n) onto)
    ]

-- zeros that come change nothing
pub least_number-zeros : (n m : ℕ) (p : List ℕ) → n - length p ≤ m → least_number n (take n (p ++ zeros m)) ≡ least_number n (take n p)
unfolding least_number
least_number-zeros n m p le =
    elim (cases_lt (length p) n) [
      | inr h ↦ rw (take-append-le n p (zeros m) h) refl
      | inl lt ↦
          let none : ℕ = 0 in
          let few : take n p ≡ p = take_all n p (omega arith) in
          let cut : take (n - length p) (zeros m) ≡ zeros (n - length p) = take-replicate (n - length p) m none le in
          let onto : take n (p ++ zeros m) ≡ p ++ zeros (n - length p) = take_onto n p (zeros m) (omega arith) ∙ ap (λ (t : List ℕ). p ++ t) cut in
          let len : n - length (p ++ zeros (n - length p)) ≡ 0 = omega (arith, length-append p (zeros (n - length p)), length_zeros (n - length p)) in
          let all : (p ++ zeros (n - length p)) ++ zeros (n - length (p ++ zeros (n - length p))) ≡ p ++ zeros (n - length p) =
          ap (λ (k : ℕ). (p ++ zeros (n - length p)) ++ zeros k) len ∙ append-nil _ in
          ap (least_number n) onto ∙ ap number all ∙ sym (ap (least_number n) few)
    ]

-- the number that code makes of the digits that are there
pub least_number-padded : (n : ℕ) (xs : List ℕ) → length xs ≤ n → n ≤ 8 → from_be_bytes w64 (zeros (8 - n) ++ xs ++ zeros (n - length xs)) ≡ least_number n xs
unfolding least_number
least_number-padded n xs few most =
    let rest : List ℕ = xs ++ zeros (n - length xs) in
    let len : length (zeros (8 - n) ++ rest) ≡ 8 = omega (arith, length-append (zeros (8 - n)) rest, length_zeros (8 - n), length-append xs (zeros (n - length xs)), length_zeros (n - length xs)) in
    ap (from_be_bytes w64) (append_assoc (zeros (8 - n)) xs (zeros (n - length xs))) ∙ from_be_bytes-is_number (zeros (8 - n) ++ rest) len ∙ number-zeros_append (8 - n) rest

-- ---- two's complement

positive_cast : (n : ℕ) → n < 2 ^ 63 → cast_signed w64 n ≡ pos n
positive_cast n lt = omega (arith, ints)

negative_cast : (n k p : ℕ) → 2 ^ 63 ≤ n → n + p ≡ k + 2 ^ 64 → k < p → cast_signed w64 n ≡ pos k -ℤ pos p
negative_cast n k zero big is lt = absurd (omega arith)
negative_cast n k (suc p) big is lt =
    let high : ltb n (2 ^ 63) ≡ false = le-ltb n (2 ^ 63) big in
    let low : ltb k (suc p) ≡ true = grind (arith, nat_tests) in
    let same : 2 ^ 64 - suc n ≡ suc p - suc k = omega arith in
    rw (high, low, same) refl

small_number : (a : ℕ) (xs : List ℕ) → a < 128 → IsBytes (a ∷ xs) → length xs ≤ 7 → number (a ∷ xs) < 2 ^ 63
small_number a [] lt fits most = omega (arith, fits 0)
small_number a (b ∷ []) lt fits most = omega (arith, fits 0, fits 1)
small_number a (b ∷ c ∷ []) lt fits most = omega (arith, fits 0, fits 1, fits 2)
small_number a (b ∷ c ∷ d ∷ []) lt fits most = omega (arith, fits 0, fits 1, fits 2, fits 3)
small_number a (b ∷ c ∷ d ∷ e ∷ []) lt fits most = omega (arith, fits 0, fits 1, fits 2, fits 3, fits 4)
small_number a (b ∷ c ∷ d ∷ e ∷ f ∷ []) lt fits most = omega (arith, fits 0, fits 1, fits 2, fits 3, fits 4, fits 5)
small_number a (b ∷ c ∷ d ∷ e ∷ f ∷ g ∷ []) lt fits most = omega (arith, fits 0, fits 1, fits 2, fits 3, fits 4, fits 5, fits 6)
small_number a (b ∷ c ∷ d ∷ e ∷ f ∷ g ∷ h ∷ []) lt fits most = omega (arith, fits 0, fits 1, fits 2, fits 3, fits 4, fits 5, fits 6, fits 7)
small_number a _ lt fits most = absurd (omega arith)

-- an integer whose first bit is not set, behind zeros
positive_padded : (a : ℕ) (xs : List ℕ) → a < 128 → IsBytes (a ∷ xs) → length xs ≤ 7
    → cast_signed w64 (from_be_bytes w64 (zeros (7 - length xs) ++ a ∷ xs)) ≡ pos (number (a ∷ xs))
positive_padded a xs lt fits most =
    let all : List ℕ = zeros (7 - length xs) ++ a ∷ xs in
    let len : length all ≡ 8 = omega (arith, length-append (zeros (7 - length xs)) (a ∷ xs), length_zeros (7 - length xs)) in
    let is : from_be_bytes w64 all ≡ number (a ∷ xs) = from_be_bytes-is_number all len ∙ number-zeros_append (7 - length xs) (a ∷ xs) in
    ap (cast_signed w64) is ∙ positive_cast (number (a ∷ xs)) (small_number a xs lt fits most)

abbrev pub ones : ℕ → List ℕ
ones m = let full : ℕ = 255 in replicate m full

-- an integer whose first bit is set, behind ones
negative_padded : (a : ℕ) (xs : List ℕ) → 128 ≤ a → IsBytes (a ∷ xs) → length xs ≤ 7
    → cast_signed w64 (from_be_bytes w64 (ones (7 - length xs) ++ a ∷ xs)) ≡ pos (number (a ∷ xs)) -ℤ pos (256 ^ suc (length xs))
negative_padded a [] le fits most = negative_cast (from_be_bytes w64 (ones 7 ++ a ∷ [])) (number (a ∷ [])) (256 ^ 1) (omega (arith, fits 0)) (omega arith) (omega (arith, fits 0))
negative_padded a (b ∷ []) le fits most = negative_cast (from_be_bytes w64 (ones 6 ++ a ∷ b ∷ [])) (number (a ∷ b ∷ [])) (256 ^ 2) (omega (arith, fits 0, fits 1)) (omega arith) (omega (arith, fits 0, fits 1))
negative_padded a (b ∷ c ∷ []) le fits most = negative_cast (from_be_bytes w64 (ones 5 ++ a ∷ b ∷ c ∷ [])) (number (a ∷ b ∷ c ∷ [])) (256 ^ 3) (omega (arith, fits 0, fits 1, fits 2)) (omega arith) (omega (arith, fits 0, fits 1, fits 2))
negative_padded a (b ∷ c ∷ d ∷ []) le fits most = negative_cast (from_be_bytes w64 (ones 4 ++ a ∷ b ∷ c ∷ d ∷ [])) (number (a ∷ b ∷ c ∷ d ∷ [])) (256 ^ 4) (omega (arith, fits 0, fits 1, fits 2, fits 3)) (omega arith) (omega (arith, fits 0, fits 1, fits 2, fits 3))
negative_padded a (b ∷ c ∷ d ∷ e ∷ []) le fits most = negative_cast (from_be_bytes w64 (ones 3 ++ a ∷ b ∷ c ∷ d ∷ e ∷ [])) (number (a ∷ b ∷ c ∷ d ∷ e ∷ [])) (256 ^ 5) (omega (arith, fits 0, fits 1, fits 2, fits 3, fits 4)) (omega arith) (omega (arith, fits 0, fits 1, fits 2, fits 3, fits 4))
negative_padded a (b ∷ c ∷ d ∷ e ∷ f ∷ []) le fits most = negative_cast (from_be_bytes w64 (ones 2 ++ a ∷ b ∷ c ∷ d ∷ e ∷ f ∷ [])) (number (a ∷ b ∷ c ∷ d ∷ e ∷ f ∷ [])) (256 ^ 6) (omega (arith, fits 0, fits 1, fits 2, fits 3, fits 4, fits 5)) (omega arith) (omega (arith, fits 0, fits 1, fits 2, fits 3, fits 4, fits 5))
negative_padded a (b ∷ c ∷ d ∷ e ∷ f ∷ g ∷ []) le fits most = negative_cast (from_be_bytes w64 (ones 1 ++ a ∷ b ∷ c ∷ d ∷ e ∷ f ∷ g ∷ [])) (number (a ∷ b ∷ c ∷ d ∷ e ∷ f ∷ g ∷ [])) (256 ^ 7) (omega (arith, fits 0, fits 1, fits 2, fits 3, fits 4, fits 5, fits 6)) (omega arith) (omega (arith, fits 0, fits 1, fits 2, fits 3, fits 4, fits 5, fits 6))
negative_padded a (b ∷ c ∷ d ∷ e ∷ f ∷ g ∷ h ∷ []) le fits most = negative_cast (from_be_bytes w64 (ones 0 ++ a ∷ b ∷ c ∷ d ∷ e ∷ f ∷ g ∷ h ∷ [])) (number (a ∷ b ∷ c ∷ d ∷ e ∷ f ∷ g ∷ h ∷ [])) (256 ^ 8) (omega (arith, fits 0, fits 1, fits 2, fits 3, fits 4, fits 5, fits 6, fits 7)) (omega arith) (omega (arith, fits 0, fits 1, fits 2, fits 3, fits 4, fits 5, fits 6, fits 7))
negative_padded a _ le fits most = absurd (omega arith)

-- the integer that code makes of the bytes
pub integer-padded : (xs : List ℕ) → IsBytes xs → 0 < length xs → length xs ≤ 8
    → cast_signed w64 (from_be_bytes w64 (replicate (8 - length xs) (sign_byte xs) ++ xs)) ≡ integer xs
unfolding integer
integer-padded [] fits some most = absurd (omega arith)
integer-padded (a ∷ xs) fits some most =
    let count : 8 - length (a ∷ xs) ≡ 7 - length xs = omega arith in
    elim (cases_lt a 128) [
      | inl lt ↦ (let low : leb 128 a ≡ false = grind (arith, nat_tests) in rw (count, low) (positive_padded a xs lt fits (omega arith)))
      | inr le ↦ (let high : leb 128 a ≡ true = grind (arith, nat_tests) in rw (count, high) (negative_padded a xs le fits (omega arith)))
    ]
