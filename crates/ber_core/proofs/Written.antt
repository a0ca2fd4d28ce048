-- What is written is read as it was written, and everything else that is read so has more bytes.
use Rattle.std.proofs.Common.{◌≡◌, ℕ, zero, suc, ◌-◌, ◌+◌, ◌<◌, ◌≤◌, ◌^◌, Bool, true, false, ltb, List, [], ◌∷◌, ◌++◌, length, replicate, Some, None, refl, sym, ap, subst, ◌∙◌, arith, length-append, inl, inr, ◌⊎◌}
use Rattle.std.specs.Prelude.{ℤ, ◌==◌, ◌||◌, FitsSigned, if◌then◌else◌}
use Rattle.std.specs.Int.{w64, from_be_bytes, to_be_bytes, cast_signed, cast_unsigned}
use Rattle.std.proofs.lemmas.Bool.{cases_lt, le-ltb, eqb-true, eq-eqb}
use Rattle.std.proofs.lemmas.Bool.Decides.{nat_tests}
use Rattle.std.proofs.lemmas.List.{length-replicate}
use Rattle.std.proofs.lemmas.Int.{to_z-of_z, of_z-to_z, ints}
use Rattle.std.proofs.lemmas.Nat.{from_be_bytes-to_be_bytes_8, be_bytes_8}
use Rattle.ber_core.specs.Number.{IsBytes, number, drop_zeros, is_negative, sign_byte, integer, integer_of, is_needless, drop_needless, shortest_integer}
use Rattle.ber_core.specs.Element.{IsLength, IsTag, IsElement, shortest_length, element}
use Rattle.ber_core.proofs.Digits.{zeros, length_zeros, number-zeros_append, IsBytes-zeros_append, from_be_bytes-is_number, integer-padded}

-- ---- lengths

number-drop_zeros : (bytes : List ℕ) → number (drop_zeros bytes) ≡ number bytes
number-drop_zeros [] = refl
number-drop_zeros (zero ∷ bytes) = number-drop_zeros bytes
number-drop_zeros (suc b ∷ bytes) = refl

drop_zeros-zeros_append : (m : ℕ) (bytes : List ℕ) → drop_zeros (zeros m ++ bytes) ≡ drop_zeros bytes
drop_zeros-zeros_append zero bytes = refl
drop_zeros-zeros_append (suc m) bytes = drop_zeros-zeros_append m bytes

drop_zeros-shorter : (bytes : List ℕ) → (drop_zeros bytes ≡ bytes) ⊎ (length (drop_zeros bytes) < length bytes)
drop_zeros-shorter [] = inl refl
drop_zeros-shorter (zero ∷ bytes) = elim (drop_zeros-shorter bytes) [ inl same ↦ inr (omega (arith, ap (λ (xs : List ℕ). length xs) same)) | inr less ↦ inr (omega arith) ]
drop_zeros-shorter (suc b ∷ bytes) = inl refl

length-drop_zeros : (bytes : List ℕ) → length (drop_zeros bytes) ≤ length bytes
length-drop_zeros [] = omega arith
length-drop_zeros (zero ∷ bytes) = omega (arith, length-drop_zeros bytes)
length-drop_zeros (suc b ∷ bytes) = omega arith

number-to_be_bytes : (n : ℕ) → n < 2 ^ 64 → number (drop_zeros (to_be_bytes w64 n)) ≡ n
number-to_be_bytes n lt = number-drop_zeros (to_be_bytes w64 n) ∙ sym (from_be_bytes-is_number (to_be_bytes w64 n) refl) ∙ from_be_bytes-to_be_bytes_8 n lt

some_digit : (digits : List ℕ) (n : ℕ) → number digits ≡ n → 0 < n → 0 < length digits
some_digit [] n is lt = let none : number [] ≡ 0 = refl in absurd (omega arith)
some_digit (d ∷ digits) n is lt = omega arith

is_low : (a b : ℕ) → a < b → ltb a b ≡ true
is_low a b lt = grind (arith, nat_tests)

shortest_length-low : (n : ℕ) → n < 128 → shortest_length n ≡ n ∷ []
unfolding shortest_length
shortest_length-low n lt = rw (is_low n 128 lt) refl

shortest_length-high : (n : ℕ) → 128 ≤ n → shortest_length n ≡ (128 + length (drop_zeros (to_be_bytes w64 n))) ∷ drop_zeros (to_be_bytes w64 n)
unfolding shortest_length
shortest_length-high n le = rw (le-ltb n 128 le) refl

IsLength-shortest_length : (n : ℕ) → n < 2 ^ 64 → IsLength (shortest_length n) n
IsLength-shortest_length n lt =
    elim (cases_lt n 128) [
      | inl low ↦ rw (shortest_length-low n low) (inl (record { first = low; alone = refl; value = refl }))
      | inr high ↦
          let digits = drop_zeros (to_be_bytes w64 n) in
          let is = number-to_be_bytes n lt in
          let most : length digits ≤ 8 = length-drop_zeros (to_be_bytes w64 n) in
          rw (shortest_length-high n high) (inr (record { some = some_digit digits n is (omega arith); up_to_eight = most; first = refl; value = sym is }))
    ]

pub IsElement-element : (tag : ℕ) (body : List ℕ) → IsTag tag → length body < 2 ^ 64 → IsElement (element tag body) tag body
unfolding element
IsElement-element tag body t lt = record { len = shortest_length (length body); parts = refl; tag_form = t; length_form = IsLength-shortest_length (length body) lt }

-- the digits that are written, from any digits of the same number
digits_again : (digits : List ℕ) (n : ℕ) → IsBytes digits → length digits ≤ 8 → n ≡ number digits → drop_zeros (to_be_bytes w64 n) ≡ drop_zeros digits
digits_again digits n fits le is =
    let m = 8 - length digits in
    let all : List ℕ = zeros m ++ digits in
    let len : length all ≡ 8 = omega (arith, length-append (zeros m) digits, length_zeros m) in
    let value : n ≡ from_be_bytes w64 all = is ∙ sym (number-zeros_append m digits) ∙ sym (from_be_bytes-is_number all len) in
    ap drop_zeros (be_bytes_8 all n len (IsBytes-zeros_append m digits fits) value) ∙ drop_zeros-zeros_append m digits

pub shortest_length-shorter : (len : List ℕ) (n : ℕ) → IsBytes len → IsLength len n → (len ≡ shortest_length n) ⊎ (length (shortest_length n) < length len)
shortest_length-shorter [] n fits form = absurd form
shortest_length-shorter (b ∷ digits) n fits (inl short) =
    let first = short.first in
    let value = short.value in
    inl ((λ i. sym value i ∷ short.alone i) ∙ sym (shortest_length-low n (omega arith)))
shortest_length-shorter (b ∷ digits) n fits (inr long) =
    let some = long.some in
    elim (cases_lt n 128) [
      | inl low ↦ inr (omega (arith, ap (λ (xs : List ℕ). length xs) (shortest_length-low n low)))
      | inr high ↦
          let again = digits_again digits n (λ i. fits (suc i)) long.up_to_eight long.value in
          let is = shortest_length-high n high in
          elim (drop_zeros-shorter digits) [
            | inl same ↦
                let digits_are : drop_zeros (to_be_bytes w64 n) ≡ digits = again ∙ same in
                inl ((λ i. long.first i ∷ digits) ∙ sym (ap (λ (xs : List ℕ). (128 + length xs) ∷ xs) digits_are) ∙ sym is)
            | inr less ↦ inr (omega (arith, ap (λ (xs : List ℕ). length xs) is, ap (λ (xs : List ℕ). length xs) again))
          ]
    ]

-- ---- integers

drops : (b : ℕ) (bytes : List ℕ) → is_needless b bytes ≡ true → drop_needless (b ∷ bytes) ≡ drop_needless bytes
unfolding drop_needless
drops b bytes e = rw e refl

keeps : (b : ℕ) (bytes : List ℕ) → is_needless b bytes ≡ false → drop_needless (b ∷ bytes) ≡ b ∷ bytes
unfolding drop_needless
keeps b bytes e = rw e refl

cases_bool : (b : Bool) → (b ≡ true) ⊎ (b ≡ false)
cases_bool true = inl refl
cases_bool false = inr refl

drop_needless-shorter : (bytes : List ℕ) → (drop_needless bytes ≡ bytes) ⊎ (length (drop_needless bytes) < length bytes)
unfolding drop_needless
drop_needless-shorter [] = inl refl
drop_needless-shorter (b ∷ bytes) =
    elim (cases_bool (is_needless b bytes)) [
      | inl is ↦
          let tail : length (drop_needless (b ∷ bytes)) ≡ length (drop_needless bytes) = ap (λ (xs : List ℕ). length xs) (drops b bytes is) in
          elim (drop_needless-shorter bytes) [ inl same ↦ inr (omega (arith, ap (λ (xs : List ℕ). length xs) same)) | inr less ↦ inr (omega arith) ]
      | inr never ↦ inl (keeps b bytes never)
    ]

sign_byte-again : (bytes others : List ℕ) → sign_byte (sign_byte bytes ∷ others) ≡ sign_byte bytes
sign_byte-again bytes others = again (is_negative bytes)
  where
    again : (b : Bool) → sign_byte ((if b then 255 else 0) ∷ others) ≡ (if b then 255 else 0)
    again true = refl
    again false = refl

-- copies of the sign in front of the bytes
abbrev signs : ℕ → List ℕ → List ℕ
signs m bytes = replicate m (sign_byte bytes) ++ bytes

sign_byte-signs : (m : ℕ) (bytes : List ℕ) → sign_byte (signs m bytes) ≡ sign_byte bytes
sign_byte-signs zero bytes = refl
sign_byte-signs (suc m) bytes = sign_byte-again bytes (signs m bytes)

needless_is : (b : ℕ) (bytes : List ℕ) → 0 < length bytes → sign_byte bytes ≡ b → is_needless b bytes ≡ true
needless_is b [] some is = absurd (omega arith)
needless_is b (c ∷ bytes) some is = eq-eqb b (sign_byte (c ∷ bytes)) (sym is)

drop_needless-signs : (m : ℕ) (bytes : List ℕ) → 0 < length bytes → drop_needless (signs m bytes) ≡ drop_needless bytes
drop_needless-signs zero bytes some = refl
drop_needless-signs (suc m) bytes some =
    let some_more : 0 < length (signs m bytes) = omega (arith, length-append (replicate m (sign_byte bytes)) bytes) in
    drops (sign_byte bytes) (signs m bytes) (needless_is (sign_byte bytes) (signs m bytes) some_more (sign_byte-signs m bytes)) ∙ drop_needless-signs m bytes some

-- the bytes are those of the others with copies of the sign in front
record IsSigned (bytes others : List ℕ) : Type 0 where
  sign : sign_byte others ≡ sign_byte bytes
  shorter : length others ≤ length bytes
  some : 0 < length others
  whole : signs (length bytes - length others) others ≡ bytes

itself : (b : ℕ) (bytes : List ℕ) → IsSigned (b ∷ bytes) (b ∷ bytes)
itself b bytes =
    let none : length (b ∷ bytes) - length (b ∷ bytes) ≡ 0 = omega arith in
    record { sign = refl; shorter = omega arith; some = omega arith; whole = ap (λ (n : ℕ). signs n (b ∷ bytes)) none }

one_more : (b c : ℕ) (bytes others : List ℕ) → b ≡ sign_byte (c ∷ bytes) → IsSigned (c ∷ bytes) others → IsSigned (b ∷ c ∷ bytes) others
one_more b c bytes others is h =
    let shorter = h.shorter in
    let some = h.some in
    let again : sign_byte (b ∷ c ∷ bytes) ≡ sign_byte (c ∷ bytes) = ap (λ (n : ℕ). sign_byte (n ∷ c ∷ bytes)) is ∙ sign_byte-again (c ∷ bytes) (c ∷ bytes) in
    let count : length (b ∷ c ∷ bytes) - length others ≡ suc (length (c ∷ bytes) - length others) = omega arith in
    let first : sign_byte others ≡ b = h.sign ∙ sym is in
    record {
      sign = h.sign ∙ sym again;
      shorter = omega arith;
      some = some;
      whole = ap (λ (n : ℕ). signs n others) count ∙ ap (λ (n : ℕ). n ∷ signs (length (c ∷ bytes) - length others) others) first ∙ ap (λ (xs : List ℕ). b ∷ xs) h.whole;
    }

IsSigned-drop_needless : (b : ℕ) (bytes : List ℕ) → IsSigned (b ∷ bytes) (drop_needless (b ∷ bytes))
IsSigned-drop_needless b [] = subst (λ (xs : List ℕ). IsSigned (b ∷ []) xs) (sym (keeps b [] refl)) (itself b [])
IsSigned-drop_needless b (c ∷ bytes) =
    elim (cases_bool (is_needless b (c ∷ bytes))) [
      | inl is ↦ subst (λ (xs : List ℕ). IsSigned (b ∷ c ∷ bytes) xs) (sym (drops b (c ∷ bytes) is)) (one_more b c bytes (drop_needless (c ∷ bytes)) (eqb-true b (sign_byte (c ∷ bytes)) is) (IsSigned-drop_needless c bytes))
      | inr never ↦ subst (λ (xs : List ℕ). IsSigned (b ∷ c ∷ bytes) xs) (sym (keeps b (c ∷ bytes) never)) (itself b (c ∷ bytes))
    ]

pub IsBytes-append_left : (xs ys : List ℕ) → IsBytes (xs ++ ys) → IsBytes xs
IsBytes-append_left [] ys h i = omega arith
IsBytes-append_left (x ∷ xs) ys h zero = h zero
IsBytes-append_left (x ∷ xs) ys h (suc i) = IsBytes-append_left xs ys (λ j. h (suc j)) i

pub IsBytes-append_right : (xs ys : List ℕ) → IsBytes (xs ++ ys) → IsBytes ys
IsBytes-append_right [] ys h = h
IsBytes-append_right (x ∷ xs) ys h = IsBytes-append_right xs ys (λ i. h (suc i))

IsBytes-to_be_bytes : (n : ℕ) → IsBytes (to_be_bytes w64 n)
IsBytes-to_be_bytes n zero = omega arith
IsBytes-to_be_bytes n (suc zero) = omega arith
IsBytes-to_be_bytes n (suc (suc zero)) = omega arith
IsBytes-to_be_bytes n (suc (suc (suc zero))) = omega arith
IsBytes-to_be_bytes n (suc (suc (suc (suc zero)))) = omega arith
IsBytes-to_be_bytes n (suc (suc (suc (suc (suc zero))))) = omega arith
IsBytes-to_be_bytes n (suc (suc (suc (suc (suc (suc zero)))))) = omega arith
IsBytes-to_be_bytes n (suc (suc (suc (suc (suc (suc (suc zero))))))) = omega arith
IsBytes-to_be_bytes n (suc (suc (suc (suc (suc (suc (suc (suc i)))))))) = omega arith

integer_of-some : (bytes : List ℕ) → 0 < length bytes → length bytes ≤ 8 → integer_of bytes ≡ Some (integer bytes)
integer_of-some bytes some most =
    let one : (length bytes == 0) ≡ false = grind (arith, nat_tests) in
    rw (one, le-ltb 8 (length bytes) most) refl

integer_of-drop_needless : (n : ℕ) → n < 2 ^ 64 → integer_of (drop_needless (to_be_bytes w64 n)) ≡ Some (cast_signed w64 n)
integer_of-drop_needless n lt =
    let bytes = to_be_bytes w64 n in
    let few = drop_needless bytes in
    let h : IsSigned bytes few = IsSigned-drop_needless _ _ in
    let fits : IsBytes few = IsBytes-append_right (replicate (8 - length few) (sign_byte few)) few (subst IsBytes (sym h.whole) (IsBytes-to_be_bytes n)) in
    integer_of-some few h.some h.shorter
    ∙ ap Some (sym (integer-padded few fits h.some h.shorter) ∙ ap (λ (xs : List ℕ). cast_signed w64 (from_be_bytes w64 xs)) h.whole ∙ ap (cast_signed w64) (from_be_bytes-to_be_bytes_8 n lt))

in_range : (z : ℤ) → FitsSigned w64 z → cast_unsigned w64 z < 2 ^ 64
in_range z fits = omega (arith, ints)

pub integer_of-shortest_integer : (z : ℤ) → FitsSigned w64 z → integer_of (shortest_integer z) ≡ Some z
unfolding shortest_integer
integer_of-shortest_integer z fits = integer_of-drop_needless (cast_unsigned w64 z) (in_range z fits) ∙ ap Some (to_z-of_z w64 z fits)

integer_of-says : (bytes : List ℕ) (z : ℤ) → integer_of bytes ≡ Some z → (0 < length bytes) × (length bytes ≤ 8) × (integer bytes ≡ z)
integer_of-says bytes z e =
    let c = read (length bytes == 0 || ltb 8 (length bytes)) (integer bytes) e in
    let none = c.0 in
    (grind (arith, nat_tests), grind (arith, nat_tests), c.1)
  where
    read : (b : Bool) (x : ℤ) → (if b then None else Some x) ≡ Some z → (b ≡ false) × (x ≡ z)
    read true x is = absurd cc
    read false x is = (refl, cc)

IsBytes-signs : (m : ℕ) (bytes : List ℕ) → IsBytes bytes → IsBytes (signs m bytes)
IsBytes-signs zero bytes h i = h i
IsBytes-signs (suc m) bytes h zero = below (is_negative bytes)
  where
    below : (b : Bool) → (if b then 255 else 0) < 256
    below true = omega arith
    below false = omega arith
IsBytes-signs (suc m) bytes h (suc i) = IsBytes-signs m bytes h i

in_width : (bytes : List ℕ) → IsBytes bytes → from_be_bytes w64 bytes < 2 ^ 64
in_width bytes h = omega (arith, h 0, h 1, h 2, h 3, h 4, h 5, h 6, h 7)

-- the bytes that are written, from any bytes of the same integer
shortest_integer-is : (bytes : List ℕ) (z : ℤ) → IsBytes bytes → integer_of bytes ≡ Some z → shortest_integer z ≡ drop_needless bytes
unfolding shortest_integer
shortest_integer-is bytes z fits e =
    let s = integer_of-says bytes z e in
    let some = s.0 in
    let most = s.1 in
    let all : List ℕ = signs (8 - length bytes) bytes in
    let all_fit : IsBytes all = IsBytes-signs (8 - length bytes) bytes fits in
    let n = from_be_bytes w64 all in
    let sign : ℕ = sign_byte bytes in
    let len : length all ≡ 8 = omega (arith, length-append (replicate (8 - length bytes) sign) bytes, length-replicate (8 - length bytes) sign) in
    let is : cast_signed w64 n ≡ z = integer-padded bytes fits some most ∙ s.2 in
    let back : cast_unsigned w64 z ≡ n = ap (cast_unsigned w64) (sym is) ∙ of_z-to_z w64 n (in_width all all_fit) in
    ap drop_needless (ap (to_be_bytes w64) back ∙ be_bytes_8 all n len all_fit refl) ∙ drop_needless-signs (8 - length bytes) bytes some

pub shortest_integer-shorter : (bytes : List ℕ) (z : ℤ) → IsBytes bytes → integer_of bytes ≡ Some z → (bytes ≡ shortest_integer z) ⊎ (length (shortest_integer z) < length bytes)
shortest_integer-shorter bytes z fits e =
    let is = shortest_integer-is bytes z fits e in
    elim (drop_needless-shorter bytes) [
      | inl same ↦ inl (sym (is ∙ same))
      | inr less ↦ inr (omega (arith, ap (λ (xs : List ℕ). length xs) is))
    ]
