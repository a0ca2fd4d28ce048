-- What is normalized of characters is characters: each is a Unicode scalar value.
use Rattle.std.proofs.Common.{◌≡◌, ℕ, ◌-◌, ◌+◌, ◌/◌, ◌%◌, ◌<◌, Bool, true, false, List, [], ◌∷◌, Some, refl, sym, ap, ap₂, ◌∙◌, arith, inl, inr}
use Rattle.std.specs.Prelude.{◌&&◌}
use Rattle.std.specs.List.{list_all}
use Rattle.std.proofs.Math.Utf8.{scalar, scalars, low_scalar}
use Rattle.std.proofs.lemmas.Bool.{cases_Bool, cases_eq, cond-false}
use Rattle.ucd_table.proofs.RangedFacts.{points_ok, values_ok, Stepped-at_points, Stepped-at_values}
use Rattle.ucd_normal.specs.declared.forms.Form.TheVariants.{Nfkc}
use Rattle.ucd_normal.specs.Decomposition.{decomposition, if_canonical, canonical_mapping, or_itself, compatibility_decomposition}
use Rattle.ucd_normal.proofs.Computing.{ucd_normal}
use Rattle.ucd_normal.proofs.CompositionLemmas.{is_empty}
use Rattle.ucd_normal.proofs.DecompositionLemmas.{decomposition_stepped, compatibility_decomposition_stepped}
use Rattle.unicode_normalization.specs.Compose.{primary_composite}
use Rattle.unicode_normalization.specs.Decompose.{decompose}
use Rattle.unicode_normalization.specs.Forms.{nfkc}
use Rattle.unicode_normalization.specs.Hangul.{is_syllable, decompose_hangul}
use Rattle.unicode_normalization.proofs.DecomposeLemmas.{decompose-syllable, primary_composite-some}
use Rattle.unicode_normalization.proofs.HangulLemmas.{is_syllable-true, decompose_hangul-two, decompose_hangul-three}
use Rattle.unicode_normalization.proofs.KeptLemmas.{list_all-normalize}

-- ---- what the tables say

parts_scalar : (c : ℕ) → list_all scalar (compatibility_decomposition c) ≡ true
unfolding ucd_normal values_ok
parts_scalar = Stepped-at_values compatibility_decomposition compatibility_decomposition_stepped (λ s. list_all scalar s) refl

mapped_scalar : (c : ℕ) → is_empty (if_canonical (decomposition c)) ≡ false → scalar c ≡ true
unfolding ucd_normal points_ok
mapped_scalar = Stepped-at_points decomposition decomposition_stepped (λ e. is_empty (if_canonical e)) (λ c e. scalar c) refl

-- ---- decomposition

itself_or : (c : ℕ) (xs : List ℕ) → scalar c ≡ true → list_all scalar xs ≡ true → list_all scalar (or_itself c xs) ≡ true
itself_or c [] h all = ap (λ (b : Bool). b && true) h
itself_or c (x ∷ xs) h all = all

decompose-other : (c : ℕ) → is_syllable c ≡ false → decompose Nfkc c ≡ or_itself c (compatibility_decomposition c)
unfolding decompose
decompose-other c h = cond-false _ _ _ h

two_scalars : (l v : ℕ) → l < 55296 → v < 55296 → list_all scalar (l ∷ v ∷ []) ≡ true
two_scalars l v p q = ap₂ (λ (a b : Bool). a && (b && true)) (low_scalar l p) (low_scalar v q)

three_scalars : (l v t : ℕ) → l < 55296 → v < 55296 → t < 55296 → list_all scalar (l ∷ v ∷ t ∷ []) ≡ true
three_scalars l v t p q r = ap₂ (λ (a b : Bool). a && b) (low_scalar l p) (two_scalars v t q r)

hangul_scalar : (c : ℕ) → is_syllable c ≡ true → list_all scalar (decompose_hangul c) ≡ true
hangul_scalar c h =
    let k = is_syllable-true c h in
    let l = 0x1100 + (c - 0xAC00) / 588 in
    let v = 0x1161 + (c - 0xAC00) % 588 / 28 in
    let t = 0x11A7 + (c - 0xAC00) % 28 in
    elim (cases_eq ((c - 0xAC00) % 28) 0) [
      | inl two ↦ ap (list_all scalar) (decompose_hangul-two c two) ∙ two_scalars l v (omega (arith, k.1)) (omega (arith, k.1))
      | inr three ↦ ap (list_all scalar) (decompose_hangul-three c three) ∙ three_scalars l v t (omega (arith, k.1)) (omega (arith, k.1)) (omega (arith, k.1))
    ]

decompose_scalar : (c : ℕ) → scalar c ≡ true → list_all scalar (decompose Nfkc c) ≡ true
decompose_scalar c h =
    elim (cases_Bool (is_syllable c)) [
      | inl syllable ↦ ap (list_all scalar) (decompose-syllable Nfkc c syllable) ∙ hangul_scalar c syllable
      | inr other ↦ ap (list_all scalar) (decompose-other c other) ∙ itself_or c (compatibility_decomposition c) h (parts_scalar c)
    ]

-- ---- composition

has_mapping : (c a b : ℕ) → canonical_mapping c ≡ a ∷ b ∷ [] → is_empty (if_canonical (decomposition c)) ≡ false
has_mapping c a b e = ap is_empty e

composite_scalar : (a b c : ℕ) → scalar a ≡ true → scalar b ≡ true → primary_composite a b ≡ Some c → scalar c ≡ true
composite_scalar a b c p q h =
    elim (primary_composite-some a b c h) [
      | inl hangul ↦
          elim hangul [
            | inl lv ↦ low_scalar c (let l = lv.leading in let v = lv.vowel in omega (arith, lv.value, l.0, l.1, v.0, v.1))
            | inr lvt ↦ low_scalar c (let s = lvt.syllable in let t = lvt.trailing in omega (arith, lvt.value, s.0, s.1, t.0, t.1))
          ]
      | inr table ↦ mapped_scalar c (has_mapping c a b table.mapping)
    ]

scalars-all : (cs : List ℕ) → scalars cs ≡ list_all scalar cs
scalars-all [] = refl
scalars-all (c ∷ cs) = ap (λ (b : Bool). scalar c && b) (scalars-all cs)

pub all-nfkc : (cs : List ℕ) → scalars cs ≡ true → list_all scalar (nfkc cs) ≡ true
all-nfkc cs h = list_all-normalize Nfkc scalar decompose_scalar composite_scalar cs (sym (scalars-all cs) ∙ h)

pub scalars-from_all : (cs : List ℕ) → list_all scalar cs ≡ true → scalars cs ≡ true
scalars-from_all cs h = scalars-all cs ∙ h
