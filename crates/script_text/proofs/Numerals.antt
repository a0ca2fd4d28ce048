-- A number is read back from its decimal digits, and digits without a leading zero are those of the number that they write.
use Rattle.std.proofs.Common.{◌≡◌, ℕ, ◌+◌, ◌*◌, ◌-◌, ◌^◌, ◌<◌, true, not, List, [], ◌∷◌, length, get_or, Some, None, inl, inr, sym, ap, ◌∙◌, rules, arith}
use Rattle.std.specs.Prelude.{◌==◌, ◌&&◌, ◌||◌, nat_le, fold}
use Rattle.std.specs.List.{list_all}
use Rattle.std.specs.Fmt.{decimal}
use Rattle.std.proofs.lemmas.Bool.{and_parts, and_from, or_left, or_right, or_cases, cases_Bool, cases_eq, cond-true, cond-false, le-leb, leb-true, eq-eqb, eqb-true, ne_eqb, not_from_false}
use Rattle.std.proofs.lemmas.Str.Parse.{IsNumeralModel, numerals_by_fold}
use Rattle.std.proofs.lemmas.Fmt.{digits_decimal, digits_value-decimal, decimal-digits_value, decimal_nonempty, first_decimal, decimal_digit}
use Rattle.script_text.specs.Words.{is_digit, is_number, value_of, number_in}
use Rattle.script_text.specs.Spelling.{IsFromTo}

abbrev value_on : ℕ → List ℕ → ℕ
value_on n ds = fold (λ value d. 10 * value + (d - 48)) n ds

own : IsNumeralModel (λ ds. list_all is_digit ds ≡ true) (value_on 0)
own = numerals_by_fold _ (search rules) value_on (search rules)

pub some-same : {A : Type 0} (x y : A) → Some x ≡ Some y → x ≡ y
some-same x y e = cc

-- ---- from a number to its digits

pub decimal-digits : (n : ℕ) → n < 2 ^ 64 → list_all is_digit (decimal n) ≡ true
decimal-digits n lt = digits_decimal own n lt

-- digits alone, of which the first is no zero where there are more
number-from : (ds : List ℕ) → list_all is_digit ds ≡ true → 0 < length ds → (get_or ds 0 0 ≡ 48 → length ds ≡ 1) → is_number ds ≡ true
number-from [] digits some one = absurd (omega (arith, some))
number-from (d ∷ ds) digits some one =
    and_from (list_all is_digit (d ∷ ds)) (not (d == 48) || (length ds == 0)) digits
    elim (cases_eq d 48) [
      | inl e ↦ let empty : length ds ≡ 0 = omega (arith, one e) in or_right (not (d == 48)) (length ds == 0) (eq-eqb (length ds) 0 empty)
      | inr n ↦ or_left (not (d == 48)) (length ds == 0) (not_from_false (d == 48) (ne_eqb d 48 n))
    ]

decimal-leads : (n : ℕ) → n < 2 ^ 64 → get_or (decimal n) 0 0 ≡ 48 → length (decimal n) ≡ 1
decimal-leads n lt e =
    elim (cases_eq n 0) [
      | inl z ↦ ap (λ (m : ℕ). length (decimal m)) z ∙ ap length (decimal_digit 0 (omega arith))
      | inr nz ↦ absurd (omega (arith, first_decimal n (omega (arith, nz)) lt, e))
    ]

decimal-number : (n : ℕ) → n < 2 ^ 64 → is_number (decimal n) ≡ true
decimal-number n lt = number-from (decimal n) (decimal-digits n lt) (decimal_nonempty n lt) (decimal-leads n lt)

-- a number within its range is read back
pub number_in-decimal : (low high n : ℕ) → high < 2 ^ 64 → IsFromTo low high n → number_in low high (decimal n) ≡ Some n
number_in-decimal low high n fits r =
    let lt : n < 2 ^ 64 = omega (arith, r.most, fits) in
    let value : value_of (decimal n) ≡ n = digits_value-decimal own n lt in
    let bounds : (nat_le low (value_of (decimal n)) && nat_le (value_of (decimal n)) high) ≡ true =
    ap (λ (m : ℕ). nat_le low m && nat_le m high) value ∙ and_from (nat_le low n) (nat_le n high) (le-leb low n r.least) (le-leb n high r.most) in
    cond-true _ (Some (value_of (decimal n))) None (and_from (is_number (decimal n)) _ (decimal-number n lt) bounds) ∙ ap (λ (m : ℕ). Some m) value

-- ---- from digits to the number

-- what `is_number` says
pub record Numeral (ds : List ℕ) : Type 0 where
  digits : list_all is_digit ds ≡ true
  some : 0 < length ds
  leads : get_or ds 0 0 ≡ 48 → length ds ≡ 1

numeral : (ds : List ℕ) → is_number ds ≡ true → Numeral ds
numeral [] e = cc
numeral (d ∷ ds) e =
    let parts = and_parts (list_all is_digit (d ∷ ds)) (not (d == 48) || (length ds == 0)) e in
    record {
      digits = parts.0;
      some = omega arith;
      leads = λ z.
          elim (or_cases (not (d == 48)) (length ds == 0) parts.1) [
            | inl f ↦ let t : (d == 48) ≡ true = eq-eqb d 48 z in cc
            | inr t ↦ let empty : length ds ≡ 0 = eqb-true (length ds) 0 t in omega (arith, empty)
          ];
    }

pub record ReadNumber (low high n : ℕ) (text : List ℕ) : Type 0 where
  pub in_range : IsFromTo low high n
  pub word : text ≡ decimal n

-- a word that is read as a number is that number in decimal
pub number_in-some : (low high n : ℕ) (word : List ℕ) → high < 2 ^ 64 → number_in low high word ≡ Some n → ReadNumber low high n word
number_in-some low high n word fits e =
    elim (cases_Bool (is_number word && (nat_le low (value_of word) && nat_le (value_of word) high))) [
      | inl t ↦
          let value : value_of word ≡ n = some-same _ _ (sym (cond-true _ (Some (value_of word)) None t) ∙ e) in
          let parts = and_parts (is_number word) _ t in
          let bounds = and_parts (nat_le low (value_of word)) (nat_le (value_of word) high) parts.1 in
          let least = leb-true low (value_of word) bounds.0 in
          let most = leb-true (value_of word) high bounds.1 in
          let w = numeral word parts.0 in
          let same = decimal-digits_value own word w.digits w.some w.leads (omega (arith, most, fits)) in
          record {
            in_range = record { least = omega (arith, least, value); most = omega (arith, most, value) };
            word = sym same ∙ ap decimal value;
          }
      | inr f ↦ let none : None ≡ Some n = sym (cond-false _ (Some (value_of word)) None f) ∙ e in cc
    ]
