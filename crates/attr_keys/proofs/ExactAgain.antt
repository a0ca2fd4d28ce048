-- The key of a text whose case counts is its own key.
use Rattle.std.proofs.Common.{◌≡◌, ℕ, ◌+◌, ◌/◌, ◌≤◌, Bool, true, false, not, cond, ltb, List, [], ◌∷◌, ◌++◌, Option, Some, None, refl, sym, ap, ap₂, ◌∙◌, arith, inl, inr, ◌⊎◌, append-nil}
use Rattle.std.specs.Prelude.{◌==◌, ◌&&◌, chars, encode_utf8_all, bytes_eq}
use Rattle.std.specs.List.{list_all}
use Rattle.std.specs.Str.{is_utf8}
use Rattle.std.proofs.Math.Utf8.{scalar, scalars, next, encode, encodes}
use Rattle.std.proofs.lemmas.Bool.{eqb-true}
use Rattle.std.proofs.lemmas.Bool.Decides.{nat_tests}
use Rattle.std.proofs.lemmas.Str.{chars-encodes}
use Rattle.unicode_normalization.specs.Forms.{nfkc}
use Rattle.unicode_normalization.proofs.FormsLemmas.{normalize_idem}
use Rattle.ucd_normal.specs.declared.forms.Form.TheVariants.{Nfkc}
use Rattle.repl_data.specs.Key.{squeezed, trimmed}
use Rattle.attr_keys.specs.declared.kind.Kind.TheVariants.{Exact}
use Rattle.attr_keys.specs.Value.{utf8_fault, bad_unless, has_text, bad_text, bad_value, composed, prepared, value_key}
use Rattle.repl_data.proofs.Bools.{and-left, and-right}
use Rattle.attr_keys.proofs.TextsAgain.{drop_last, last-dropped, trimmed-again, all-squeezed, all-dropped}
use Rattle.attr_keys.proofs.ScalarStays.{all-nfkc, scalars-from_all}
use Rattle.attr_keys.proofs.SpaceStays.{IsComposed, parted, squeezed-again}

-- ---- a character as bytes

-- no space
abbrev other : ℕ → Bool
other b = not (b == 32)

other-high : (b : ℕ) → 128 ≤ b → other b ≡ true
other-high b le = grind (arith, nat_tests)

other-from : (b : ℕ) → (b == 32) ≡ false → other b ≡ true
other-from b e = ap (λ (t : Bool). not t) e

not-space : (b : ℕ) → other b ≡ true → (b == 32) ≡ false
not-space b e = by_test (b == 32) e
  where
    by_test : (t : Bool) → not t ≡ true → t ≡ false
    by_test true h = cc
    by_test false h = refl

-- one of four lists by three tests, each of which passes
one_of_four : (p : List ℕ → Bool) (a b c : Bool) (w x y z : List ℕ) → p w ≡ true → p x ≡ true → p y ≡ true → p z ≡ true → p (cond a w (cond b x (cond c y z))) ≡ true
one_of_four p true b c w x y z e f g h = e
one_of_four p false true c w x y z e f g h = f
one_of_four p false false true w x y z e f g h = g
one_of_four p false false false w x y z e f g h = h

-- the bytes of a character that is no space have no space
encode-other : (c : ℕ) → (c == 32) ≡ false → list_all other (encode c) ≡ true
unfolding encode
encode-other c e =
    one_of_four (λ xs. list_all other xs) (ltb c 128) (ltb c 2048) (ltb c 65536)
    (c ∷ []) ((192 + c / 64) ∷ next c ∷ []) ((224 + c / 4096) ∷ next (c / 64) ∷ next c ∷ []) ((240 + c / 262144) ∷ next (c / 4096) ∷ next (c / 64) ∷ next c ∷ [])
    (ap₂ ◌&&◌ (other-from c e) refl)
    (ap₂ ◌&&◌ (other-high (192 + c / 64) (omega arith)) (ap₂ ◌&&◌ (high c) refl))
    (ap₂ ◌&&◌ (other-high (224 + c / 4096) (omega arith)) (ap₂ ◌&&◌ (high (c / 64)) (ap₂ ◌&&◌ (high c) refl)))
    (ap₂ ◌&&◌ (other-high (240 + c / 262144) (omega arith)) (ap₂ ◌&&◌ (high (c / 4096)) (ap₂ ◌&&◌ (high (c / 64)) (ap₂ ◌&&◌ (high c) refl))))
  where
    high : (n : ℕ) → other (next n) ≡ true
    high n = other-high (next n) (omega arith)

abbrev is_some : List ℕ → Bool
is_some [] = false
is_some (b ∷ bs) = true

encode-some : (c : ℕ) → is_some (encode c) ≡ true
unfolding encode
encode-some c =
    one_of_four is_some (ltb c 128) (ltb c 2048) (ltb c 65536)
    (c ∷ []) ((192 + c / 64) ∷ next c ∷ []) ((224 + c / 4096) ∷ next (c / 64) ∷ next c ∷ []) ((240 + c / 262144) ∷ next (c / 4096) ∷ next (c / 64) ∷ next c ∷ [])
    refl refl refl refl

encode-space : encode 32 ≡ 32 ∷ []
unfolding encode
encode-space = refl

-- ---- runs of spaces, in characters and in bytes

squeezed-other : (after : Bool) (b : ℕ) (bs : List ℕ) → (b == 32) ≡ false → squeezed after (b ∷ bs) ≡ b ∷ squeezed false bs
squeezed-other true b bs e = ap (λ (t : Bool). cond t (squeezed true bs) (b ∷ squeezed t bs)) e
squeezed-other false b bs e = ap (λ (t : Bool). b ∷ squeezed t bs) e

squeezed-through : (after : Bool) (bs rest : List ℕ) → is_some bs ≡ true → list_all other bs ≡ true → squeezed after (bs ++ rest) ≡ bs ++ squeezed false rest
squeezed-through after [] rest some h = cc
squeezed-through after (b ∷ []) rest some h = squeezed-other after b rest (not-space b (and-left (other b) true h))
squeezed-through after (b ∷ c ∷ bs) rest some h =
    squeezed-other after b ((c ∷ bs) ++ rest) (not-space b (and-left (other b) (list_all other (c ∷ bs)) h))
    ∙ ap (λ (xs : List ℕ). b ∷ xs) (squeezed-through false (c ∷ bs) rest refl (and-right (other b) (list_all other (c ∷ bs)) h))

squeezed-encodes : (after : Bool) (cs : List ℕ) → squeezed after (encodes cs) ≡ encodes (squeezed after cs)
squeezed-encodes after [] = refl
squeezed-encodes after (c ∷ cs) = at (c == 32) refl after (squeezed-encodes true cs) (squeezed-encodes false cs)
  where
    at : (t : Bool) → (c == 32) ≡ t → (after : Bool) → squeezed true (encodes cs) ≡ encodes (squeezed true cs) → squeezed false (encodes cs) ≡ encodes (squeezed false cs)
        → squeezed after (encode c ++ encodes cs) ≡ encodes (squeezed after (c ∷ cs))
    at true e true here later =
        let space = eqb-true c 32 e in
        ap (λ (d : ℕ). squeezed true (encode d ++ encodes cs)) space ∙ ap (λ (bs : List ℕ). squeezed true (bs ++ encodes cs)) encode-space ∙ here ∙ ap (λ (d : ℕ). encodes (squeezed true (d ∷ cs))) (sym space)
    at true e false here later =
        let space = eqb-true c 32 e in
        ap (λ (d : ℕ). squeezed false (encode d ++ encodes cs)) space ∙ ap (λ (bs : List ℕ). squeezed false (bs ++ encodes cs)) encode-space
        ∙ ap (λ (bs : List ℕ). 32 ∷ bs) here ∙ ap (λ (bs : List ℕ). bs ++ encodes (squeezed true cs)) (sym encode-space) ∙ ap (λ (d : ℕ). encodes (squeezed false (d ∷ cs))) (sym space)
    at false e after here later =
        squeezed-through after (encode c) (encodes cs) (encode-some c) (encode-other c e) ∙ ap (λ (bs : List ℕ). encode c ++ bs) later ∙ ap encodes (sym (squeezed-other after c cs e))

-- ---- a space at the end

drop_last-append : (xs bs : List ℕ) → is_some bs ≡ true → drop_last (xs ++ bs) ≡ xs ++ drop_last bs
drop_last-append xs [] some = cc
drop_last-append [] (b ∷ bs) some = refl
drop_last-append (x ∷ []) (b ∷ bs) some = refl
drop_last-append (x ∷ y ∷ xs) (b ∷ bs) some = ap (λ (l : List ℕ). x ∷ l) (drop_last-append (y ∷ xs) (b ∷ bs) some)

drop_last-other : (bs : List ℕ) → list_all other bs ≡ true → drop_last bs ≡ bs
drop_last-other [] h = refl
drop_last-other (b ∷ []) h = ap (λ (t : Bool). cond t [] (b ∷ [])) (not-space b (and-left (other b) true h))
drop_last-other (b ∷ c ∷ bs) h = ap (λ (l : List ℕ). b ∷ l) (drop_last-other (c ∷ bs) (and-right (other b) (list_all other (c ∷ bs)) h))

some-append : (xs ys : List ℕ) → is_some xs ≡ true → is_some (xs ++ ys) ≡ true
some-append [] ys h = cc
some-append (x ∷ xs) ys h = refl

drop_last-encodes : (cs : List ℕ) → drop_last (encodes cs) ≡ encodes (drop_last cs)
drop_last-encodes [] = refl
drop_last-encodes (c ∷ []) = at (c == 32) refl
  where
    at : (t : Bool) → (c == 32) ≡ t → drop_last (encode c ++ []) ≡ encodes (drop_last (c ∷ []))
    at true e =
        let space = eqb-true c 32 e in
        ap (λ (d : ℕ). drop_last (encode d ++ [])) space ∙ ap (λ (bs : List ℕ). drop_last (bs ++ [])) encode-space ∙ ap (λ (d : ℕ). encodes (drop_last (d ∷ []))) (sym space)
    at false e =
        ap drop_last (append-nil (encode c)) ∙ drop_last-other (encode c) (encode-other c e) ∙ sym (append-nil (encode c)) ∙ ap (λ (t : Bool). encodes (cond t [] (c ∷ []))) (sym e)
drop_last-encodes (c ∷ d ∷ cs) =
    drop_last-append (encode c) (encodes (d ∷ cs)) (some-append (encode d) (encodes cs) (encode-some d)) ∙ ap (λ (bs : List ℕ). encode c ++ bs) (drop_last-encodes (d ∷ cs))

last_cases : (xs : List ℕ) → (drop_last xs ≡ xs) ⊎ (xs ≡ drop_last xs ++ 32 ∷ [])
last_cases [] = inl refl
last_cases (b ∷ []) = at (b == 32) refl
  where
    at : (t : Bool) → (b == 32) ≡ t → (cond t [] (b ∷ []) ≡ b ∷ []) ⊎ (b ∷ [] ≡ cond t [] (b ∷ []) ++ 32 ∷ [])
    at true e = inr (ap (λ (c : ℕ). c ∷ []) (eqb-true b 32 e))
    at false e = inl refl
last_cases (b ∷ c ∷ bs) = elim (last_cases (c ∷ bs)) [
  | inl e ↦ inl (ap (λ (l : List ℕ). b ∷ l) e)
  | inr e ↦ inr (ap (λ (l : List ℕ). b ∷ l) e)
]

dropped-again : (xs : List ℕ) → IsComposed xs → IsComposed (drop_last xs)
dropped-again xs i = elim (last_cases xs) [
  | inl e ↦ ap nfkc e ∙ i ∙ sym e
  | inr e ↦ (parted (drop_last xs) [] (ap nfkc (sym e) ∙ i ∙ e)).0
]

-- ---- the key

-- without the outer spaces and with one space of each run
abbrev tidied : List ℕ → List ℕ
tidied cs = drop_last (squeezed true cs)

trimmed-encodes : (cs : List ℕ) → trimmed (encodes cs) ≡ encodes (tidied cs)
trimmed-encodes cs = last-dropped (squeezed true (encodes cs)) ∙ ap drop_last (squeezed-encodes true cs) ∙ drop_last-encodes (squeezed true cs)

key-of_exact : (bs : List ℕ) → value_key Exact bs ≡ trimmed (encodes (nfkc (chars bs)))
unfolding value_key prepared composed
key-of_exact bs = refl

characters : (bs : List ℕ) → bad_value Exact bs ≡ None → scalars (chars bs) ≡ true
unfolding bad_value bad_text is_utf8
characters bs h = and-left (scalars (chars bs)) (bytes_eq (encode_utf8_all (chars bs)) bs) (first (is_utf8 bs) (bad_unless (has_text bs) bs) (utf8_fault bs) h)
  where
    first : (t : Bool) (x : Option ℕ) (y : ℕ) → cond t x (Some y) ≡ None → t ≡ true
    first true x y k = refl
    first false x y k = cc

pub exact-again : (bs : List ℕ) → bad_value Exact bs ≡ None → value_key Exact (value_key Exact bs) ≡ value_key Exact bs
exact-again bs h =
    let cs : List ℕ = nfkc (chars bs) in
    let all : list_all scalar (tidied cs) ≡ true = all-dropped scalar (squeezed true cs) (all-squeezed scalar true cs (all-nfkc (chars bs) (characters bs h))) in
    let form : IsComposed (tidied cs) = dropped-again (squeezed true cs) (squeezed-again cs (normalize_idem Nfkc (chars bs))) in
    let key : value_key Exact bs ≡ encodes (tidied cs) = key-of_exact bs ∙ trimmed-encodes cs in
    let read : chars (encodes (tidied cs)) ≡ tidied cs = chars-encodes (tidied cs) (scalars-from_all (tidied cs) all) in
    ap (value_key Exact) key ∙ key-of_exact (encodes (tidied cs)) ∙ ap (λ (xs : List ℕ). trimmed (encodes (nfkc xs))) read ∙ ap (λ (xs : List ℕ). trimmed (encodes xs)) form
    ∙ ap trimmed (sym (trimmed-encodes cs)) ∙ trimmed-again (encodes cs) ∙ trimmed-encodes cs ∙ sym key
