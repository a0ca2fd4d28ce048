-- The key of an attribute name is an attribute name.
use Rattle.std.proofs.Common.{◌≡◌, ℕ, ◌+◌, ◌<◌, Bool, true, false, cond, List, [], ◌∷◌, ◌++◌, length, map, find, bytes_eq, Option, Some, None, refl, sym, ap, ap₂, subst, ◌∙◌, add-zero, arith}
use Rattle.std.specs.Prelude.{◌==◌, ◌||◌, ◌&&◌}
use Rattle.std.proofs.lemmas.List.{take-append-drop}
use Rattle.std.proofs.lemmas.Bool.Decides.{nat_tests}
use Rattle.std.specs.Char.{to_ascii_lowercase}
use Rattle.std.specs.Cmp.Lexicographic.{bytes_decides}
use Rattle.std.specs.List.{list_all}
use Rattle.std.specs.Option.{option_map_or}
use Rattle.attr_keys.specs.declared.name.NameState.{NameState}
use Rattle.attr_keys.specs.declared.name.NameState.TheVariants.{Start, Word, NewOption, Arc, Zero, Digits}
use Rattle.attr_keys.specs.Name.{is_digit, is_letter, is_key_char, next_state, may_end, bad_from, bad_name, base_len, base_of, options_of}
use Rattle.attr_keys.specs.Table.{AttrType, types, type_of, is_named, key_of}
use Rattle.repl_data.proofs.Bools.{and-left, and-right, either_true}
use Rattle.attr_keys.proofs.NamesAgain.{found-passes}

-- ---- in lower case

letter-lower : (c : ℕ) → is_letter (to_ascii_lowercase c) ≡ is_letter c
letter-lower c = grind (arith, nat_tests)

digit-lower : (c : ℕ) → is_digit (to_ascii_lowercase c) ≡ is_digit c
digit-lower c = grind (arith, nat_tests)

mark-lower : (k c : ℕ) → k < 65 → (to_ascii_lowercase c == k) ≡ (c == k)
mark-lower k c h = grind (arith, nat_tests)

key_char-lower : (c : ℕ) → is_key_char (to_ascii_lowercase c) ≡ is_key_char c
key_char-lower c = ap₂ ◌||◌ (ap₂ ◌||◌ (letter-lower c) (digit-lower c)) (mark-lower 45 c (omega arith))

-- the next states, of what is asked of a byte
abbrev from_start : Bool → Bool → Bool → Option NameState
from_start l z d = cond l (Some Word) (cond z (Some (Zero false)) (cond d (Some (Digits false)) None))

abbrev from_word : Bool → Bool → Option NameState
from_word c s = cond c (Some Word) (cond s (Some NewOption) None)

abbrev from_arc : Bool → Bool → Option NameState
from_arc z d = cond z (Some (Zero true)) (cond d (Some (Digits true)) None)

abbrev from_zero : Bool → Bool → Bool → Option NameState
from_zero dotted p s = cond p (Some Arc) (cond (dotted && s) (Some NewOption) None)

next_state-lower : (s : NameState) (c : ℕ) → next_state s (to_ascii_lowercase c) ≡ next_state s c
next_state-lower Start c =
    ap (λ (l : Bool). from_start l (to_ascii_lowercase c == 48) (is_digit (to_ascii_lowercase c))) (letter-lower c)
    ∙ ap₂ (λ (z d : Bool). from_start (is_letter c) z d) (mark-lower 48 c (omega arith)) (digit-lower c)
next_state-lower Word c = ap₂ from_word (key_char-lower c) (mark-lower 59 c (omega arith))
next_state-lower NewOption c = ap (λ (k : Bool). cond k (Some Word) None) (key_char-lower c)
next_state-lower Arc c = ap₂ from_arc (mark-lower 48 c (omega arith)) (digit-lower c)
next_state-lower (Zero dotted) c = ap₂ (from_zero dotted) (mark-lower 46 c (omega arith)) (mark-lower 59 c (omega arith))
next_state-lower (Digits dotted) c =
    ap₂ (λ (d : Bool) (o : Option NameState). cond d (Some (Digits dotted)) o) (digit-lower c) (ap₂ (from_zero dotted) (mark-lower 46 c (omega arith)) (mark-lower 59 c (omega arith)))

-- ---- places do not matter, and texts may be cut

bad_from-cons : (s : NameState) (at c : ℕ) (cs : List ℕ) → bad_from s at (c ∷ cs) ≡ elim (next_state s c) as (λ _. Option ℕ) [ None ↦ Some at | Some t ↦ bad_from t (at + 1) cs ]
unfolding bad_from
bad_from-cons s at c cs = refl

bad_from-nil : (s : NameState) (at : ℕ) → bad_from s at [] ≡ cond (may_end s) None (Some at)
unfolding bad_from
bad_from-nil s at = refl

-- what is good from a state on is good wherever it stands, also in lower case
good-lower : (s : NameState) (at bt : ℕ) (cs : List ℕ) → bad_from s at cs ≡ None → bad_from s bt (map to_ascii_lowercase cs) ≡ None
good-lower s at bt [] e = bad_from-nil s bt ∙ ended (may_end s) (sym (bad_from-nil s at) ∙ e)
  where
    ended : (b : Bool) → cond b None (Some at) ≡ None → cond b None (Some bt) ≡ None
    ended true h = refl
    ended false h = cc
good-lower s at bt (c ∷ cs) e =
    bad_from-cons s bt (to_ascii_lowercase c) (map to_ascii_lowercase cs)
    ∙ ap (λ (o : Option NameState). elim o as (λ _. Option ℕ) [ None ↦ Some bt | Some t ↦ bad_from t (bt + 1) (map to_ascii_lowercase cs) ]) (next_state-lower s c)
    ∙ next (next_state s c) (sym (bad_from-cons s at c cs) ∙ e) (λ t h. good-lower t (at + 1) (bt + 1) cs h)
  where
    next : (o : Option NameState) → elim o as (λ _. Option ℕ) [ None ↦ Some at | Some t ↦ bad_from t (at + 1) cs ] ≡ None → ((t : NameState) → bad_from t (at + 1) cs ≡ None → bad_from t (bt + 1) (map to_ascii_lowercase cs) ≡ None) → elim o as (λ _. Option ℕ) [ None ↦ Some bt | Some t ↦ bad_from t (bt + 1) (map to_ascii_lowercase cs) ] ≡ None
    next None h later = cc
    next (Some t) h later = later t h

good-anywhere : (s : NameState) (at bt : ℕ) (cs : List ℕ) → bad_from s at cs ≡ None → bad_from s bt cs ≡ None
good-anywhere s at bt [] e = bad_from-nil s bt ∙ ended (may_end s) (sym (bad_from-nil s at) ∙ e)
  where
    ended : (b : Bool) → cond b None (Some at) ≡ None → cond b None (Some bt) ≡ None
    ended true h = refl
    ended false h = cc
good-anywhere s at bt (c ∷ cs) e =
    bad_from-cons s bt c cs ∙ next (next_state s c) (sym (bad_from-cons s at c cs) ∙ e) (λ t h. good-anywhere t (at + 1) (bt + 1) cs h)
  where
    next : (o : Option NameState) → elim o as (λ _. Option ℕ) [ None ↦ Some at | Some t ↦ bad_from t (at + 1) cs ] ≡ None → ((t : NameState) → bad_from t (at + 1) cs ≡ None → bad_from t (bt + 1) cs ≡ None) → elim o as (λ _. Option ℕ) [ None ↦ Some bt | Some t ↦ bad_from t (bt + 1) cs ] ≡ None
    next None h later = cc
    next (Some t) h later = later t h

-- the text is read in a word from this state on
abbrev stays_word : List ℕ → Bool
stays_word [] = true
stays_word (c ∷ cs) = is_key_char c && stays_word cs

abbrev is_word : List ℕ → Bool
is_word [] = false
is_word (c ∷ cs) = is_letter c && stays_word cs

after-stay : (at : ℕ) (cs rest : List ℕ) → stays_word cs ≡ true → bad_from Word at (cs ++ rest) ≡ bad_from Word (at + length cs) rest
after-stay at [] rest h = ap (λ (n : ℕ). bad_from Word n rest) (sym (add-zero at))
after-stay at (c ∷ cs) rest h =
    let p : at + 1 + length cs ≡ at + length (c ∷ cs) = omega arith in
    bad_from-cons Word at c (cs ++ rest)
    ∙ ap (λ (k : Bool). elim (from_word k (c == 59)) as (λ _. Option ℕ) [ None ↦ Some at | Some t ↦ bad_from t (at + 1) (cs ++ rest) ]) (and-left (is_key_char c) (stays_word cs) h)
    ∙ after-stay (at + 1) cs rest (and-right (is_key_char c) (stays_word cs) h)
    ∙ ap (λ (n : ℕ). bad_from Word n rest) p

after-word : (cs rest : List ℕ) → is_word cs ≡ true → bad_name (cs ++ rest) ≡ bad_from Word (length cs) rest
after-word [] rest h = cc
after-word (c ∷ cs) rest h =
    let p : 1 + length cs ≡ length (c ∷ cs) = omega arith in
    bad_from-cons Start 0 c (cs ++ rest)
    ∙ ap (λ (l : Bool). elim (from_start l (c == 48) (is_digit c)) as (λ _. Option ℕ) [ None ↦ Some 0 | Some t ↦ bad_from t 1 (cs ++ rest) ]) (and-left (is_letter c) (stays_word cs) h)
    ∙ after-stay 1 cs rest (and-right (is_letter c) (stays_word cs) h)
    ∙ ap (λ (n : ℕ). bad_from Word n rest) p

-- ---- the table

abbrev has_words : AttrType → Bool
has_words t = is_word t.name && is_word t.other

types-words : list_all has_words types ≡ true
unfolding types
types-words = refl

type-words : (base : List ℕ) (t : AttrType) → type_of base ≡ Some t → has_words t ≡ true
unfolding type_of
type-words base t e = found-passes (is_named base) has_words types t e types-words

found-named : (base : List ℕ) (t : AttrType) (ts : List AttrType) → find (is_named base) ts ≡ Some t → is_named base t ≡ true
found-named base t [] h = cc
found-named base t (u ∷ us) h = here (is_named base u) refl h (λ k. found-named base t us k)
  where
    here : (b : Bool) → is_named base u ≡ b → cond b (Some u) (find (is_named base) us) ≡ Some t → (find (is_named base) us ≡ Some t → is_named base t ≡ true) → is_named base t ≡ true
    here true k h later = let same : u ≡ t = cc in subst (λ (v : AttrType). is_named base v ≡ true) same k
    here false k h later = later h

type-named : (base : List ℕ) (t : AttrType) → type_of base ≡ Some t → is_named base t ≡ true
unfolding type_of
type-named base t e = found-named base t types e

-- a text that names a type is a word
named-word : (base : List ℕ) (t : AttrType) → type_of base ≡ Some t → is_word base ≡ true
named-word base t e =
    let words : has_words t ≡ true = type-words base t e in
    either_true (bytes_eq t.name base) (bytes_eq t.other base) (type-named base t e)
    (λ h. ap is_word (sym ((bytes_decides t.name base).0 h)) ∙ and-left (is_word t.name) (is_word t.other) words)
    (λ h. ap is_word (sym ((bytes_decides t.other base).0 h)) ∙ and-right (is_word t.name) (is_word t.other) words)

first-good : (base rest : List ℕ) (found : Option AttrType) → type_of base ≡ found → bad_name (base ++ rest) ≡ None → bad_name (option_map_or (λ (t : AttrType). t.name) found base ++ rest) ≡ None
first-good base rest None e h = h
first-good base rest (Some t) e h =
    let name : is_word t.name ≡ true = and-left (is_word t.name) (is_word t.other) (type-words base t e) in
    after-word t.name rest name ∙ good-anywhere Word (length base) (length t.name) rest (sym (after-word base rest (named-word base t e)) ∙ h)

map-append : (xs ys : List ℕ) → map to_ascii_lowercase (xs ++ ys) ≡ map to_ascii_lowercase xs ++ map to_ascii_lowercase ys
map-append [] ys = refl
map-append (x ∷ xs) ys = ap (λ (zs : List ℕ). to_ascii_lowercase x ∷ zs) (map-append xs ys)

-- the key of a name is a name
pub key_of-good : (name : List ℕ) → bad_name name ≡ None → bad_name (key_of name) ≡ None
unfolding key_of
key_of-good name h =
    let whole : map to_ascii_lowercase (base_of name) ++ map to_ascii_lowercase (options_of name) ≡ map to_ascii_lowercase name = sym (map-append (base_of name) (options_of name)) ∙ ap (map to_ascii_lowercase) (take-append-drop (base_len name) name) in
    let low : bad_name (map to_ascii_lowercase (base_of name) ++ map to_ascii_lowercase (options_of name)) ≡ None = ap bad_name whole ∙ good-lower Start 0 0 name h in
    first-good (map to_ascii_lowercase (base_of name)) (map to_ascii_lowercase (options_of name)) (type_of (map to_ascii_lowercase (base_of name))) refl low
