-- A space in a text that is normalized: it stays, and what stands before it and behind it is normalized alone.
use Rattle.std.proofs.Common.{◌≡◌, ℕ, ◌<◌, ◌≤◌, Bool, true, false, cond, List, [], ◌∷◌, ◌++◌, length, None, refl, sym, ap, ap₂, ◌∙◌, arith, inl, inr, append_assoc, append-nil, length-append}
use Rattle.std.specs.Prelude.{◌==◌, ◌&&◌}
use Rattle.std.proofs.lemmas.Bool.{cases_lt, eqb-true}
use Rattle.ucd_normal.specs.declared.forms.Form.TheVariants.{Nfkd, Nfkc}
use Rattle.ucd_normal.specs.CanonicalCombiningClass.{canonical_combining_class as ccc}
use Rattle.ucd_normal.specs.Composition.{paired_with}
use Rattle.ucd_normal.specs.Compositions.{compositions}
use Rattle.ucd_normal.proofs.Computing.{ucd_normal}
use Rattle.ucd_normal.proofs.CompositionLemmas.{composite-paired_with}
use Rattle.unicode_normalization.specs.Compose.{primary_composite, compose_after, compose}
use Rattle.unicode_normalization.specs.Forms.{nfkc}
use Rattle.unicode_normalization.specs.Hangul.{compose_hangul}
use Rattle.unicode_normalization.proofs.ComposeLemmas.{cases_Option, joined-none, compose_after-nil, compose_after-starter, compose_after-kept, compose-nil, compose-starter, compose-mark}
use Rattle.unicode_normalization.proofs.DecomposeLemmas.{primary_composite-table}
use Rattle.unicode_normalization.proofs.FormsLemmas.{normalize-Nfkc, normalize_idem, normalize-ascii_boundary, normalize-nil, decomposed-passing, is_final-Nfkd, class-latin, quick_check-ascii}
use Rattle.unicode_normalization.proofs.HangulLemmas.{compose_hangul-some}
use Rattle.unicode_normalization.proofs.TableFacts.{is_final}
use Rattle.repl_data.specs.Key.{squeezed}

-- ---- a space composes with nothing behind it

pairs_of_space : compositions 0x20 ≡ []
unfolding ucd_normal
pairs_of_space = refl

never_after_space : (b : ℕ) → primary_composite 0x20 b ≡ None
unfolding paired_with
never_after_space b =
    elim (cases_Option (compose_hangul 0x20 b)) [
      | inl none ↦ primary_composite-table 0x20 b none ∙ composite-paired_with 0x20 b ∙ ap (paired_with b) pairs_of_space
      | inr some ↦ elim (compose_hangul-some 0x20 b some.0 some.1) [ inl lv ↦ absurd (omega (arith, lv.leading)) | inr lvt ↦ absurd (omega (arith, lvt.syllable)) ]
    ]

compose_after-alone : (s : ℕ) (between cs : List ℕ) → ((b : ℕ) → primary_composite s b ≡ None) → compose_after s between cs ≡ s ∷ (between ++ compose cs)
compose_after-alone s between [] never =
    compose_after-nil s between ∙ ap (λ (l : List ℕ). s ∷ l) (sym (append-nil between) ∙ ap (λ (l : List ℕ). between ++ l) (sym compose-nil))
compose_after-alone s between (c ∷ cs) never =
    elim (cases_lt 0 (ccc c)) [
      | inl mark ↦
          compose_after-kept s between c cs (joined-none s between c (never c)) mark ∙ compose_after-alone s (between ++ c ∷ []) cs never
          ∙ ap (λ (l : List ℕ). s ∷ l) (append_assoc between (c ∷ []) (compose cs) ∙ ap (λ (l : List ℕ). between ++ l) (sym (compose-mark c cs mark)))
      | inr starter ↦
          compose_after-starter s between c cs (joined-none s between c (never c)) starter ∙ ap (λ (l : List ℕ). s ∷ (between ++ l)) (sym (compose-starter c cs starter))
    ]

final_space : is_final Nfkd 0x20 ≡ true
final_space = is_final-Nfkd 0x20 (quick_check-ascii Nfkd 0x20 (omega arith))

starter_space : ccc 0x20 ≤ 0
starter_space = omega (arith, class-latin 0x20 (omega arith))

space_first : (ys : List ℕ) → nfkc (0x20 ∷ ys) ≡ 0x20 ∷ nfkc ys
space_first ys =
    normalize-Nfkc (0x20 ∷ ys) ∙ ap compose (decomposed-passing Nfkc 0x20 ys final_space starter_space) ∙ compose-starter 0x20 _ starter_space
    ∙ compose_after-alone 0x20 [] _ never_after_space ∙ ap (λ (l : List ℕ). 0x20 ∷ l) (sym (normalize-Nfkc ys))

pub at_space : (xs ys : List ℕ) → nfkc (xs ++ 0x20 ∷ ys) ≡ nfkc xs ++ 0x20 ∷ nfkc ys
at_space xs ys = normalize-ascii_boundary Nfkc xs 0x20 ys (omega arith) ∙ ap (λ (l : List ℕ). nfkc xs ++ l) (space_first ys)

-- ---- what is normalized is so on both sides of a space

-- the text is in the form NFKC
abbrev pub IsComposed : List ℕ → Type 0
IsComposed xs = nfkc xs ≡ xs

-- of two ways to split a list the one with more in front has the front of the other at its front
longer : (xs as_ : List ℕ) (u v : ℕ) (ys bs : List ℕ) → xs ++ u ∷ ys ≡ as_ ++ v ∷ bs → length xs < length as_ → (t : List ℕ) × (as_ ≡ xs ++ u ∷ t)
longer [] [] u v ys bs e lt = absurd (omega arith)
longer [] (a ∷ as_) u v ys bs e lt = (let first : u ≡ a = cc in (as_, ap (λ (x : ℕ). x ∷ as_) (sym first)))
longer (x ∷ xs) [] u v ys bs e lt = absurd (omega arith)
longer (x ∷ xs) (a ∷ as_) u v ys bs e lt =
    let first : x ≡ a = cc in
    let others : xs ++ u ∷ ys ≡ as_ ++ v ∷ bs = cc in
    let k = longer xs as_ u v ys bs others (omega arith) in
    (k.0, ap₂ (λ (y : ℕ) (l : List ℕ). y ∷ l) (sym first) k.1)

equal_fronts : (xs as_ : List ℕ) (u v : ℕ) (ys bs : List ℕ) → xs ++ u ∷ ys ≡ as_ ++ v ∷ bs → length xs ≡ length as_ → (xs ≡ as_) × (ys ≡ bs)
equal_fronts [] [] u v ys bs e same = (refl, cc)
equal_fronts [] (a ∷ as_) u v ys bs e same = absurd (omega arith)
equal_fronts (x ∷ xs) [] u v ys bs e same = absurd (omega arith)
equal_fronts (x ∷ xs) (a ∷ as_) u v ys bs e same =
    let first : x ≡ a = cc in
    let others : xs ++ u ∷ ys ≡ as_ ++ v ∷ bs = cc in
    let k = equal_fronts xs as_ u v ys bs others (omega arith) in
    (ap₂ (λ (y : ℕ) (l : List ℕ). y ∷ l) first k.0, k.1)

-- no text is longer than itself
never_longer : (xs ys : List ℕ) → xs ≡ xs ++ 0x20 ∷ ys → ⊥
never_longer xs ys e = (let len = ap (λ (l : List ℕ). length l) e in omega (arith, length-append xs (0x20 ∷ ys)))

idem : (xs : List ℕ) → nfkc (nfkc xs) ≡ nfkc xs
idem xs = normalize_idem Nfkc xs

pub parted : (as_ bs : List ℕ) → IsComposed (as_ ++ 0x20 ∷ bs) → IsComposed as_ × IsComposed bs
parted as_ bs i =
    let e : nfkc as_ ++ 0x20 ∷ nfkc bs ≡ as_ ++ 0x20 ∷ bs = sym (at_space as_ bs) ∙ i in
    elim (cases_lt (length (nfkc as_)) (length as_)) [
      | inl lt ↦
          (let k = longer (nfkc as_) as_ 0x20 0x20 (nfkc bs) bs e lt in
          absurd (never_longer (nfkc as_) (nfkc k.0) (ap nfkc k.1 ∙ at_space (nfkc as_) k.0 ∙ ap (λ (l : List ℕ). l ++ 0x20 ∷ nfkc k.0) (idem as_))))
      | inr le ↦ elim (cases_lt (length as_) (length (nfkc as_))) [
        | inl lt ↦
            (let k = longer as_ (nfkc as_) 0x20 0x20 bs (nfkc bs) (sym e) lt in
            absurd (never_longer (nfkc as_) (nfkc k.0) (sym (idem as_) ∙ ap nfkc k.1 ∙ at_space as_ k.0)))
        | inr ge ↦ equal_fronts (nfkc as_) as_ 0x20 0x20 (nfkc bs) bs e (omega arith)
      ]
    ]

pub joined_again : (as_ bs : List ℕ) → IsComposed as_ → IsComposed bs → IsComposed (as_ ++ 0x20 ∷ bs)
joined_again as_ bs i j = at_space as_ bs ∙ ap₂ (λ (x y : List ℕ). x ++ 0x20 ∷ y) i j

empty_composed : IsComposed []
empty_composed = normalize-nil Nfkc

-- ---- runs of spaces made one

-- what the rest of a text gives, behind one more character
further : (b : ℕ) (bs pre : List ℕ)
    → ((p : List ℕ) (a : Bool) → (a ≡ true → p ≡ []) → IsComposed (p ++ bs) → IsComposed (p ++ squeezed a bs))
    → IsComposed (pre ++ b ∷ bs) → IsComposed (pre ++ b ∷ squeezed false bs)
further b bs pre rec i =
    let e : pre ++ b ∷ bs ≡ (pre ++ b ∷ []) ++ bs = sym (append_assoc pre (b ∷ []) bs) in
    let f : pre ++ b ∷ squeezed false bs ≡ (pre ++ b ∷ []) ++ squeezed false bs = sym (append_assoc pre (b ∷ []) (squeezed false bs)) in
    let k = rec (pre ++ b ∷ []) false (λ x. absurd cc) (ap nfkc (sym e) ∙ i ∙ e) in
    ap nfkc f ∙ k ∙ sym f

squeezed-composed : (xs pre : List ℕ) (after : Bool) → (after ≡ true → pre ≡ []) → IsComposed (pre ++ xs) → IsComposed (pre ++ squeezed after xs)
squeezed-composed [] pre after h i = i
squeezed-composed (b ∷ bs) pre after h i = at (b == 0x20) refl after h (λ p a k j. squeezed-composed bs p a k j)
  where
    at : (t : Bool) → (b == 0x20) ≡ t → (after : Bool) → (after ≡ true → pre ≡ [])
        → ((p : List ℕ) (a : Bool) → (a ≡ true → p ≡ []) → IsComposed (p ++ bs) → IsComposed (p ++ squeezed a bs))
        → IsComposed (pre ++ cond (after && t) (squeezed true bs) (b ∷ squeezed t bs))
    at true e true h rec =
        let space : b ≡ 0x20 = eqb-true b 0x20 e in
        let k = parted pre bs (ap (λ (x : ℕ). nfkc (pre ++ x ∷ bs)) (sym space) ∙ i ∙ ap (λ (x : ℕ). pre ++ x ∷ bs) space) in
        let done : IsComposed (squeezed true bs) = rec [] true (λ x. refl) k.1 in
        ap (λ (p : List ℕ). nfkc (p ++ squeezed true bs)) (h refl) ∙ done ∙ ap (λ (p : List ℕ). p ++ squeezed true bs) (sym (h refl))
    at true e false h rec =
        let space : b ≡ 0x20 = eqb-true b 0x20 e in
        let k = parted pre bs (ap (λ (x : ℕ). nfkc (pre ++ x ∷ bs)) (sym space) ∙ i ∙ ap (λ (x : ℕ). pre ++ x ∷ bs) space) in
        let done : IsComposed (squeezed true bs) = rec [] true (λ x. refl) k.1 in
        ap (λ (x : ℕ). nfkc (pre ++ x ∷ squeezed true bs)) space ∙ joined_again pre (squeezed true bs) k.0 done ∙ ap (λ (x : ℕ). pre ++ x ∷ squeezed true bs) (sym space)
    at false e true h rec = further b bs pre rec i
    at false e false h rec = further b bs pre rec i

pub squeezed-again : (xs : List ℕ) → IsComposed xs → IsComposed (squeezed true xs)
squeezed-again xs i = squeezed-composed xs [] true (λ x. refl) i
