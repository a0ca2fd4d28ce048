-- The bytes of an attribute name, and where a text that is none is at fault.
use Rattle.std.proofs.Common.{◌≡◌, ℕ, ◌+◌, ◌≤◌, Bool, true, false, cond, List, [], ◌∷◌, length, Option, Some, None, refl, ap, ap₂, ◌∙◌, arith}
use Rattle.std.specs.Prelude.{◌==◌, ◌||◌, ◌&&◌}
use Rattle.std.specs.List.{list_all}
use Rattle.std.proofs.lemmas.Bool.Decides.{nat_tests}
use Rattle.repl_data.proofs.Bools.{or_true}
use Rattle.attr_keys.specs.declared.name.NameState.{NameState}
use Rattle.attr_keys.specs.declared.name.NameState.TheVariants.{Start, Word, NewOption, Arc, Zero, Digits}
use Rattle.attr_keys.specs.Name.{is_digit, is_letter, is_key_char, next_state, may_end, bad_from, bad_name}

-- the place at fault is in the name or at its end
bad_from-within : (s : NameState) (at : ℕ) (cs : List ℕ) (place : ℕ) → bad_from s at cs ≡ Some place → place ≤ at + length cs
unfolding bad_from
bad_from-within s at [] place e = at_end (may_end s) e
  where
    at_end : (b : Bool) → cond b None (Some at) ≡ Some place → place ≤ at + length {A = ℕ} []
    at_end true h = cc
    at_end false h = let same : at ≡ place = cc in omega arith
bad_from-within s at (c ∷ cs) place e = here (next_state s c) e (λ t h. bad_from-within t (at + 1) cs place h)
  where
    here : (o : Option NameState) → elim o as (λ _. Option ℕ) [ None ↦ Some at | Some t ↦ bad_from t (at + 1) cs ] ≡ Some place → ((t : NameState) → bad_from t (at + 1) cs ≡ Some place → place ≤ at + 1 + length cs) → place ≤ at + length (c ∷ cs)
    here None h later = let same : at ≡ place = cc in omega arith
    here (Some t) h later = let le : place ≤ at + 1 + length cs = later t h in omega arith

pub bad_name-within : (name : List ℕ) (place : ℕ) → bad_name name ≡ Some place → place ≤ length name
bad_name-within name place e = let le : place ≤ 0 + length name = bad_from-within Start 0 name place e in omega arith

-- ---- the bytes of a name

-- a letter, a digit, a hyphen, a semicolon or a dot
abbrev pub is_name_char : ℕ → Bool
is_name_char c = is_key_char c || (c == 59 || c == 46)

in_start : (l z d h s p : Bool) (t : NameState) → (z ≡ true → d ≡ true) → cond l (Some Word) (cond z (Some (Zero false)) (cond d (Some (Digits false)) None)) ≡ Some t → (((l || d) || h) || (s || p)) ≡ true
in_start true z d h s p t k e = refl
in_start false true d h s p t k e = ap (λ (b : Bool). (b || h) || (s || p)) (k refl)
in_start false false true h s p t k e = refl
in_start false false false h s p t k e = cc

in_word : (c s p : Bool) (t : NameState) → cond c (Some Word) (cond s (Some NewOption) None) ≡ Some t → (c || (s || p)) ≡ true
in_word true s p t e = refl
in_word false true p t e = refl
in_word false false p t e = cc

in_option : (c s p : Bool) (t : NameState) → cond c (Some Word) None ≡ Some t → (c || (s || p)) ≡ true
in_option true s p t e = refl
in_option false s p t e = cc

in_arc : (l z d h s p : Bool) (t : NameState) → (z ≡ true → d ≡ true) → cond z (Some (Zero true)) (cond d (Some (Digits true)) None) ≡ Some t → (((l || d) || h) || (s || p)) ≡ true
in_arc true z d h s p t k e = refl
in_arc false true d h s p t k e = ap (λ (b : Bool). (b || h) || (s || p)) (k refl)
in_arc false false true h s p t k e = refl
in_arc false false false h s p t k e = cc

in_zero : (c dotted s p : Bool) (t : NameState) → cond p (Some Arc) (cond (dotted && s) (Some NewOption) None) ≡ Some t → (c || (s || p)) ≡ true
in_zero c dotted s true t e = ap (λ (b : Bool). c || b) (or_true s) ∙ or_true c
in_zero c true true false t e = or_true c
in_zero c true false false t e = cc
in_zero c false s false t e = cc

in_digits : (l d h dotted s p : Bool) (t : NameState) → cond d (Some (Digits dotted)) (cond p (Some Arc) (cond (dotted && s) (Some NewOption) None)) ≡ Some t → (((l || d) || h) || (s || p)) ≡ true
in_digits true d h dotted s p t e = refl
in_digits false true h dotted s p t e = refl
in_digits false false h dotted s p t e = in_zero h dotted s p t e

zero-digit : (c : ℕ) → (c == 48) ≡ true → is_digit c ≡ true
zero-digit c h = grind (arith, nat_tests)

next_state-char : (s t : NameState) (c : ℕ) → next_state s c ≡ Some t → is_name_char c ≡ true
next_state-char Start t c e = in_start (is_letter c) (c == 48) (is_digit c) (c == 45) (c == 59) (c == 46) t (zero-digit c) e
next_state-char Word t c e = in_word (is_key_char c) (c == 59) (c == 46) t e
next_state-char NewOption t c e = in_option (is_key_char c) (c == 59) (c == 46) t e
next_state-char Arc t c e = in_arc (is_letter c) (c == 48) (is_digit c) (c == 45) (c == 59) (c == 46) t (zero-digit c) e
next_state-char (Zero dotted) t c e = in_zero (is_key_char c) dotted (c == 59) (c == 46) t e
next_state-char (Digits dotted) t c e = in_digits (is_letter c) (is_digit c) (c == 45) dotted (c == 59) (c == 46) t e

bad_from-chars : (s : NameState) (at : ℕ) (cs : List ℕ) → bad_from s at cs ≡ None → list_all is_name_char cs ≡ true
unfolding bad_from
bad_from-chars s at [] e = refl
bad_from-chars s at (c ∷ cs) e = here (next_state s c) refl e (λ t h. bad_from-chars t (at + 1) cs h)
  where
    here : (o : Option NameState) → next_state s c ≡ o → elim o as (λ _. Option ℕ) [ None ↦ Some at | Some t ↦ bad_from t (at + 1) cs ] ≡ None → ((t : NameState) → bad_from t (at + 1) cs ≡ None → list_all is_name_char cs ≡ true) → list_all is_name_char (c ∷ cs) ≡ true
    here None k h later = cc
    here (Some t) k h later = ap₂ ◌&&◌ (next_state-char s t c k) (later t h)

-- each byte of a name is one of these
pub bad_name-chars : (name : List ℕ) → bad_name name ≡ None → list_all is_name_char name ≡ true
bad_name-chars name e = bad_from-chars Start 0 name e
