-- Texts of ASCII, and what the tests for texts say.
use Rattle.std.proofs.Common.{◌≡◌, ℕ, IfNone, ◌<◌, ◌≤◌, Bool, true, false, not, nat_lt, nat_le, cond, List, length, position, IsUtf8, IsAscii, Option, Some, None, refl, sym, ap, ◌∙◌, arith}
use Rattle.std.proofs.lemmas.Bool.Decides.{nat_tests}
use Rattle.std.proofs.lemmas.List.Sums.{prefix_len_passes}
use Rattle.std.proofs.lemmas.Str.{is_utf8-from_IsUtf8, IsUtf8-from_is_utf8}
use Rattle.std.proofs.lemmas.Str.Ascii.{IsAscii-from_reads}
use Rattle.std.specs.List.{position_or_len}
use Rattle.std.specs.Str.{is_utf8}
use Rattle.repl_data.specs.Key.{text_key}
use Rattle.attr_keys.specs.declared.kind.Kind.TheVariants.{Dir}
use Rattle.attr_keys.specs.Value.{value_key, prepared, bad_text, bad_unless, has_text, utf8_fault}

whole-from_none : (n len : ℕ) (b : Bool) → nat_lt n len ≡ b → cond b (Some n) None ≡ None → len ≤ n
whole-from_none n len true e h = cc
whole-from_none n len false e h = grind (arith, nat_tests)

below-128 : (b : ℕ) → not (nat_le 128 b) ≡ true → b < 128
below-128 b h = grind (arith, nat_tests)

pub ascii-from_none : (bs : List ℕ) → position (λ b. nat_le 128 b) bs ≡ None → IsAscii bs
ascii-from_none bs h =
    let n : ℕ = position_or_len (λ b. nat_le 128 b) bs in
    let all : length bs ≤ n = whole-from_none n (length bs) (nat_lt n (length bs)) refl h in
    IsAscii-from_reads bs n all (λ k lt. below-128 _ (prefix_len_passes (λ x. not (nat_le 128 x)) bs k 0 lt))

pub ascii-if_none : (bs : List ℕ) (at : Option ℕ) → at ≡ position (λ b. nat_le 128 b) bs → IfNone at (IsAscii bs)
ascii-if_none bs None e = ascii-from_none bs (sym e)
ascii-if_none bs (Some at) e = tt

text-cases : (bs : List ℕ) (b : Bool) → is_utf8 bs ≡ b → bad_text bs ≡ cond b (bad_unless (has_text bs) bs) (Some (utf8_fault bs))
unfolding bad_text
text-cases bs b e = ap (λ (v : Bool). cond v (bad_unless (has_text bs) bs) (Some (utf8_fault bs))) e

pub bad_text-good : (bs : List ℕ) (b : Bool) → IsUtf8 bs → b ≡ has_text bs → b ≡ true → bad_text bs ≡ None
bad_text-good bs b utf8 same holds = text-cases bs true (is_utf8-from_IsUtf8 bs utf8) ∙ ap (λ (v : Bool). bad_unless v bs) (sym same ∙ holds)

pub bad_text-spaces : (bs : List ℕ) (b : Bool) → IsUtf8 bs → b ≡ has_text bs → b ≡ false → bad_text bs ≡ Some (length bs)
bad_text-spaces bs b utf8 same fails = text-cases bs true (is_utf8-from_IsUtf8 bs utf8) ∙ ap (λ (v : Bool). bad_unless v bs) (sym same ∙ fails)

pub bad_text-none : (bs : List ℕ) → ¬ (IsUtf8 bs) → bad_text bs ≡ Some (utf8_fault bs)
bad_text-none bs none = text-cases bs false (test (is_utf8 bs) refl)
  where
    test : (b : Bool) → is_utf8 bs ≡ b → is_utf8 bs ≡ false
    test true e = absurd (none (IsUtf8-from_is_utf8 bs e))
    test false e = e

-- the key of a directory string is that of a derived value
pub value_key-text : (bs : List ℕ) → value_key Dir bs ≡ text_key bs
unfolding value_key prepared text_key
value_key-text bs = refl
