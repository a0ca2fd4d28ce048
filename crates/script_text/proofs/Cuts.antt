-- Words without a space that are joined by spaces are cut into the same words.
use Rattle.std.proofs.Common.{◌≡◌, ℕ, ◌^◌, ◌<◌, Bool, true, false, not, List, [], ◌∷◌, Some, inl, inr, refl, sym, ap, ◌∙◌, arith}
use Rattle.std.specs.Prelude.{◌==◌, All}
use Rattle.std.specs.List.{list_all, join_with_byte, AllPass}
use Rattle.std.specs.Fmt.{decimal}
use Rattle.std.proofs.lemmas.Bool.{and_parts, and_from, cases_eq, ne_eqb, not_from_false, cond-false, leb-true}
use Rattle.std.proofs.lemmas.List.Elements.{All-cons, All-head, All-tail, All-nil}
use Rattle.std.proofs.lemmas.List.Splits.{slice_split_none, slice_split_at}
use Rattle.hex.specs.Hex.{is_hex_digit}
use Rattle.hex.proofs.HexLemmas.{decode_of-ok}
use Rattle.script_text.specs.declared.line.Line.TheVariants.{Nothing}
use Rattle.script_text.specs.Words.{words_of, is_digit}
use Rattle.script_text.specs.Line.{line_of, line_by_words}
use Rattle.script_text.specs.Spelling.{SpellsBytes}
use Rattle.script_text.proofs.Numerals.{decimal-digits}

-- no space is among the bytes
abbrev pub is_word : List ℕ → Bool
is_word = list_all (λ b. not (b == 32))

no-space : (b : ℕ) → not (b == 32) ≡ true → (b == 32) ≡ false
no-space b e = elim (cases_eq b 32) [ inl s ↦ let t : not (32 == 32) ≡ true = ap (λ (c : ℕ). not (c == 32)) (sym s) ∙ e in cc | inr n ↦ ne_eqb b 32 n ]

no-spaces : (word : List ℕ) → is_word word ≡ true → All (λ b. (b == 32) ≡ false) word
no-spaces [] e = All-nil _
no-spaces (b ∷ bytes) e =
    let parts = and_parts (not (b == 32)) (is_word bytes) e in
    All-cons (λ c. (c == 32) ≡ false) b bytes (no-space b parts.0) (no-spaces bytes parts.1)

pub words-joined : (w : List ℕ) (ws : List (List ℕ)) → is_word w ≡ true → list_all is_word ws ≡ true → words_of (join_with_byte 32 (w ∷ ws)) ≡ w ∷ ws
words-joined w [] e es = slice_split_none (λ b. b == 32) w (no-spaces w e)
words-joined w (v ∷ ws) e es =
    let parts = and_parts (is_word v) (list_all is_word ws) es in
    slice_split_at (λ b. b == 32) w 32 (join_with_byte 32 (v ∷ ws)) (no-spaces w e) refl ∙ ap (λ vs. w ∷ vs) (words-joined v ws parts.0 parts.1)

-- ---- the words of lines have no space

digit-word : (ds : List ℕ) → list_all is_digit ds ≡ true → is_word ds ≡ true
digit-word [] e = refl
digit-word (d ∷ ds) e =
    let parts = and_parts (is_digit d) (list_all is_digit ds) e in
    let least = leb-true 48 d (and_parts _ _ parts.0).0 in
    and_from (not (d == 32)) (is_word ds) (not_from_false (d == 32) (ne_eqb d 32 (λ s. omega (arith, least, s)))) (digit-word ds parts.1)

pub decimal-word : (n : ℕ) → n < 2 ^ 64 → is_word (decimal n) ≡ true
decimal-word n lt = digit-word (decimal n) (decimal-digits n lt)

hex-other : (d : ℕ) → is_hex_digit d ≡ true → (d == 32) ≡ false
hex-other d e = elim (cases_eq d 32) [ inl s ↦ let t : is_hex_digit 32 ≡ true = ap is_hex_digit (sym s) ∙ e in cc | inr n ↦ ne_eqb d 32 n ]

hex-word : (ds : List ℕ) → AllPass is_hex_digit ds → is_word ds ≡ true
hex-word [] h = refl
hex-word (d ∷ ds) h =
    and_from (not (d == 32)) (is_word ds) (not_from_false (d == 32) (hex-other d (All-head (λ c. is_hex_digit c ≡ true) d ds h))) (hex-word ds (All-tail (λ c. is_hex_digit c ≡ true) d ds h))

pub bytes-word : (digits bytes : List ℕ) → SpellsBytes digits bytes → is_word digits ≡ true
bytes-word digits bytes s = hex-word digits (decode_of-ok digits bytes s.spelled).1

pub one-word : (w : List ℕ) → is_word w ≡ true → list_all is_word (w ∷ []) ≡ true
one-word w e = and_from (is_word w) true e refl

pub more-words : (w : List ℕ) (ws : List (List ℕ)) → is_word w ≡ true → list_all is_word ws ≡ true → list_all is_word (w ∷ ws) ≡ true
more-words w ws e es = and_from (is_word w) (list_all is_word ws) e es

-- ---- a text that does not begin with `#`

pub line-joined : (b : ℕ) (name : List ℕ) (ws : List (List ℕ)) → (b == 35) ≡ false → is_word (b ∷ name) ≡ true → list_all is_word ws ≡ true
    → line_of (join_with_byte 32 ((b ∷ name) ∷ ws)) ≡ line_by_words ((b ∷ name) ∷ ws)
line-joined b name [] n e es = cond-false (b == 35) (Some Nothing) _ n ∙ ap line_by_words (words-joined (b ∷ name) [] e es)
line-joined b name (w ∷ ws) n e es = cond-false (b == 35) (Some Nothing) _ n ∙ ap line_by_words (words-joined (b ∷ name) (w ∷ ws) e es)
