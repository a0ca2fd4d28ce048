-- What spells a name is read as that name.
use Rattle.std.proofs.Common.{◌≡◌, ◌≢◌, ℕ, zero, suc, ◌+◌, Bool, true, false, not, cond, eqb, List, [], ◌∷◌, ◌++◌, length, map, take, drop, Option, Some, None, Ok, refl, sym, ap, ap₂, subst, ◌∙◌, append_assoc, add-one, add-zero, zero-add, arith}
use Rattle.std.specs.Prelude.{◌==◌, ◌||◌, ◌&&◌, nat_lt}
use Rattle.std.specs.List.{list_all}
use Rattle.std.specs.Option.{option_to_list}
use Rattle.std.proofs.lemmas.List.{take_at, drop_at, drop_all, length-append}
use Rattle.std.proofs.lemmas.Bool.{false≢true}
use Rattle.std.proofs.lemmas.Bool.Decides.{nat_tests}
use Rattle.repl_data.specs.declared.change.AttrKey.{AttrKey}
use Rattle.repl_data.specs.declared.change.Ava.{Ava}
use Rattle.repl_data.specs.declared.change.Rdn.{Rdn}
use Rattle.attr_keys.specs.Name.{bad_name}
use Rattle.attr_keys.specs.Table.{key_of, kind_of}
use Rattle.attr_keys.specs.Value.{bad_value, value_key}
use Rattle.attr_keys.proofs.NamePlaces.{is_name_char, bad_name-chars}
use Rattle.dn_text.specs.declared.fault.DnWhy.TheVariants.{HexForm}
use Rattle.dn_text.specs.declared.name.Dn.{Dn}
use Rattle.dn_text.specs.declared.escape.EscapeState.{EscapeState}
use Rattle.dn_text.specs.declared.escape.EscapeState.TheVariants.{Whole, Slash, Digit}
use Rattle.dn_text.specs.Fault.{◌>>=◌, bad}
use Rattle.dn_text.specs.Split.{Span, is_bare, escapes_next, bare_len, put_front, pieces_from, pieces, space_count, kept_from, kept_len, without_end, trimmed}
use Rattle.dn_text.specs.Escape.{is_special, is_refused, hex_digit, pair_value, one_digit, two_digits, next_byte, value_from, value_of}
use Rattle.dn_text.specs.Reading.{attr_in, begins_hash, keyed, named, value_in, has_attr, beside, part_in, put_part, parts_in, rdn_in, rdns_in, dn_in}
use Rattle.dn_text.specs.Spelling.{spaces, SpellsBytes, no_more, plain, escaped, digits, SpellsValue, SpellsPart, SpellsParts, no_part, one_more, cut_at, SpellsRdn, SpellsRdns, SpellsName}
use Rattle.dn_text.proofs.Pieces.{span, bare_len-first, bare_len-later}
use Rattle.repl_data.proofs.Bools.{and-left, and-right, either_true}
use Rattle.repl_data.proofs.Sound.{not_true}

pub pick-true : {A : Type 0} (b : Bool) (x y : A) → b ≡ true → cond b x y ≡ x
pick-true b x y h = ap (λ (v : Bool). cond v x y) h

pub pick-false : {A : Type 0} (b : Bool) (x y : A) → b ≡ false → cond b x y ≡ y
pick-false b x y h = ap (λ (v : Bool). cond v x y) h

pub eqb-other : (m n : ℕ) → m ≢ n → eqb m n ≡ false
eqb-other m n h = grind (arith, nat_tests)

-- ---- the bytes of a value

pub value-cons : (s : EscapeState) (at c : ℕ) (cs : List ℕ) → value_from s at (c ∷ cs) ≡ (next_byte s at c >>= λ n. value_from n.0 (at + 1) cs >>= λ bs. Ok (option_to_list n.1 ++ bs))
unfolding value_from
value-cons s at c cs = refl

pub value-step : (s t : EscapeState) (byte : Option ℕ) (at c : ℕ) (cs : List ℕ) → next_byte s at c ≡ Ok (t, byte) → value_from s at (c ∷ cs) ≡ (value_from t (at + 1) cs >>= λ bs. Ok (option_to_list byte ++ bs))
value-step s t byte at c cs e = value-cons s at c cs ∙ ap (λ r. r >>= λ n. value_from n.0 (at + 1) cs >>= λ bs. Ok (option_to_list n.1 ++ bs)) e

value-nil : (at : ℕ) → value_from Whole at [] ≡ Ok []
unfolding value_from
value-nil at = refl

-- a digit is no special byte
pub same-number : (m n : ℕ) → eqb m n ≡ true → m ≡ n
same-number m n h = grind (arith, nat_tests)

pub none-at : (c k : ℕ) → hex_digit k ≡ None → eqb c k ≡ true → hex_digit c ≡ None
none-at c k e h = ap hex_digit (same-number c k h) ∙ e

apart : (c : ℕ) → is_special c ≡ true → hex_digit c ≡ None
apart c h =
    either_true _ (c == 35) h
    (λ h. either_true _ (c == 32) h
    (λ h. either_true _ (c == 61) h
    (λ h. either_true _ (c == 92) h
    (λ h. either_true _ (c == 62) h
    (λ h. either_true _ (c == 60) h
    (λ h. either_true _ (c == 59) h
    (λ h. either_true _ (c == 44) h
    (λ h. either_true (c == 34) (c == 43) h (none-at c 34 refl) (none-at c 43 refl))
    (none-at c 44 refl))
    (none-at c 59 refl))
    (none-at c 60 refl))
    (none-at c 62 refl))
    (none-at c 92 refl))
    (none-at c 61 refl))
    (none-at c 32 refl))
    (none-at c 35 refl)

not-special : (c d : ℕ) → hex_digit c ≡ Some d → is_special c ≡ false
not-special c d e = test (is_special c) refl
  where
    test : (b : Bool) → is_special c ≡ b → is_special c ≡ false
    test true h = let none : hex_digit c ≡ None = apart c h in cc
    test false h = h

pub high-digit : (h l : Option ℕ) (b : ℕ) → pair_value h l ≡ Some b → (d : ℕ) × (h ≡ Some d)
high-digit None l b e = cc
high-digit (Some d) l b e = (d, refl)

pub value-read : (at : ℕ) (text bytes : List ℕ) → SpellsBytes text bytes → value_from Whole at text ≡ Ok bytes
value-read at text bytes no_more = value-nil at
value-read at text bytes (plain b rest more refused slash s) =
    let one : next_byte Whole at b ≡ Ok (Whole, Some b) = pick-false (is_refused b) _ _ refused ∙ pick-false (eqb b 92) _ _ (eqb-other b 92 slash) in
    value-step Whole Whole (Some b) at b rest one ∙ ap (λ r. r >>= λ bs. Ok (b ∷ bs)) (value-read (at + 1) rest more s)
value-read at text bytes (escaped b rest more special s) =
    let two : next_byte (Slash at) (at + 1) b ≡ Ok (Whole, Some b) = pick-true (is_special b) _ _ special in
    value-step Whole (Slash at) None at 92 (b ∷ rest) refl
    ∙ ap (λ r. r >>= λ (bs : List ℕ). Ok bs) (value-step (Slash at) Whole (Some b) (at + 1) b rest two ∙ ap (λ r. r >>= λ bs. Ok (b ∷ bs)) (value-read (at + 1 + 1) rest more s))
value-read at text bytes (digits h l b rest more hex s) =
    let d = high-digit (hex_digit h) (hex_digit l) b hex in
    let two : next_byte (Slash at) (at + 1) h ≡ Ok (Digit at h, None) = pick-false (is_special h) _ _ (not-special h d.0 d.1) ∙ ap (one_digit at h) d.1 in
    let three : next_byte (Digit at h) (at + 1 + 1) l ≡ Ok (Whole, Some b) = ap (two_digits at) hex in
    value-step Whole (Slash at) None at 92 (h ∷ l ∷ rest) refl
    ∙ ap (λ r. r >>= λ (bs : List ℕ). Ok bs)
    (value-step (Slash at) (Digit at h) None (at + 1) h (l ∷ rest) two
    ∙ ap (λ r. r >>= λ (bs : List ℕ). Ok bs) (value-step (Digit at h) Whole (Some b) (at + 1 + 1) l rest three ∙ ap (λ r. r >>= λ bs. Ok (b ∷ bs)) (value-read (at + 1 + 1 + 1) rest more s)))

-- ---- spaces around

pub kept-cons : (f : Bool) (n k c : ℕ) (cs : List ℕ) → kept_from f n k (c ∷ cs) ≡ kept_from (escapes_next f c) (n + 1) (cond (is_bare f 32 c) k (n + 1)) cs
unfolding kept_from
kept-cons f n k c cs = refl

pub kept-nil : (f : Bool) (n k : ℕ) → kept_from f n k [] ≡ k
unfolding kept_from
kept-nil f n k = refl

pub kept-spaces : (n k d : ℕ) → kept_from false n k (spaces d) ≡ k
kept-spaces n k zero = kept-nil false n k
kept-spaces n k (suc d) = kept-cons false n k 32 (spaces d) ∙ kept-spaces (n + 1) k d

pub space_count-cons : (c : ℕ) (cs : List ℕ) → space_count (c ∷ cs) ≡ cond (eqb c 32) (space_count cs + 1) 0
unfolding space_count
space_count-cons c cs = refl

pub space_count-nil : space_count [] ≡ 0
unfolding space_count
space_count-nil = refl

space_count-spaces : (d : ℕ) → space_count (spaces d) ≡ d
space_count-spaces zero = space_count-nil
space_count-spaces (suc d) = space_count-cons 32 (spaces d) ∙ ap (λ (n : ℕ). n + 1) (space_count-spaces d) ∙ add-one d

space_count-before : (a : ℕ) (xs : List ℕ) → space_count xs ≡ 0 → space_count (spaces a ++ xs) ≡ a
space_count-before zero xs h = h
space_count-before (suc a) xs h = space_count-cons 32 (spaces a ++ xs) ∙ ap (λ (n : ℕ). n + 1) (space_count-before a xs h) ∙ add-one a

length-spaces : (a : ℕ) → length (spaces a) ≡ a
length-spaces zero = refl
length-spaces (suc a) = ap suc (length-spaces a)

drop-spaces : (a : ℕ) (xs : List ℕ) → drop a (spaces a ++ xs) ≡ xs
drop-spaces a xs = drop_at (spaces a) xs a (length-spaces a)

-- after this text no backslash takes the next byte along
pub record IsClosed (text : List ℕ) : Type 0 where
  pub kept : (n k : ℕ) (rest : List ℕ) → kept_from false n k (text ++ rest) ≡ kept_from false (n + length text) (kept_from false n k text) rest

front-more : (x : ℕ) (xs ys : List ℕ) → space_count (x ∷ xs) ≡ 0 → space_count ((x ∷ xs) ++ ys) ≡ 0
front-more x xs ys h = space_count-cons x (xs ++ ys) ∙ at_byte (eqb x 32) (sym (space_count-cons x xs) ∙ h)
  where
    at_byte : (b : Bool) → cond b (space_count xs + 1) 0 ≡ 0 → cond b (space_count (xs ++ ys) + 1) 0 ≡ 0
    at_byte true e = let never : space_count xs + 1 ≡ 0 = e in absurd (omega arith)
    at_byte false e = refl

end-kept : (at : ℕ) (xs : List ℕ) (d : ℕ) → kept_len xs ≡ length xs → IsClosed xs → (without_end at (xs ++ spaces d)).text ≡ xs
end-kept at xs d back closed =
    let same : kept_len (xs ++ spaces d) ≡ length xs = closed.kept 0 0 (spaces d) ∙ kept-spaces (0 + length xs) (kept_len xs) d ∙ back in
    take_at xs (spaces d) (kept_len (xs ++ spaces d)) (sym same)

-- a text between spaces is what is left without them
pub trimmed-text : (at a d : ℕ) (xs : List ℕ) → space_count xs ≡ 0 → kept_len xs ≡ length xs → IsClosed xs → (trimmed at (spaces a ++ (xs ++ spaces d))).text ≡ xs
unfolding kept_from
trimmed-text at a d [] front back closed =
    let count : space_count (spaces a ++ spaces d) ≡ a + d = both a d in
    ap (λ (n : ℕ). (without_end (at + n) (drop n (spaces a ++ spaces d))).text) count ∙ ap (λ (r : List ℕ). (without_end (at + (a + d)) r).text) (all a d)
  where
    both : (m n : ℕ) → space_count (spaces m ++ spaces n) ≡ m + n
    both zero n = space_count-spaces n ∙ sym (zero-add n)
    both (suc m) n = let k : m + n + 1 ≡ suc m + n = omega arith in space_count-cons 32 (spaces m ++ spaces n) ∙ ap (λ (i : ℕ). i + 1) (both m n) ∙ k

    all : (m n : ℕ) → drop (m + n) (spaces m ++ spaces n) ≡ []
    all m n = drop_all (m + n) (spaces m ++ spaces n) (omega (arith, length-append (spaces m) (spaces n), length-spaces m, length-spaces n))
trimmed-text at a d (x ∷ xs) front back closed =
    let count : space_count (spaces a ++ ((x ∷ xs) ++ spaces d)) ≡ a = space_count-before a ((x ∷ xs) ++ spaces d) (front-more x xs (spaces d) front) in
    ap (λ (n : ℕ). (without_end (at + n) (drop n (spaces a ++ ((x ∷ xs) ++ spaces d)))).text) count
    ∙ ap (λ (r : List ℕ). (without_end (at + a) r).text) (drop-spaces a ((x ∷ xs) ++ spaces d))
    ∙ end-kept (at + a) (x ∷ xs) d back closed

closed-nil : IsClosed []
closed-nil = record { kept = λ n k rest. ap₂ (λ (i j : ℕ). kept_from false i j rest) (sym (add-zero n)) (sym (kept-nil false n k)) }

closed-cons : (c : ℕ) (cs : List ℕ) → eqb c 92 ≡ false → IsClosed cs → IsClosed (c ∷ cs)
closed-cons c cs h closed = record {
  kept = λ n k rest.
      let k' : ℕ = cond (is_bare false 32 c) k (n + 1) in
      let step : (ys : List ℕ) → kept_from false n k (c ∷ ys) ≡ kept_from false (n + 1) k' ys = λ ys. kept-cons false n k c ys ∙ ap (λ (f : Bool). kept_from f (n + 1) k' ys) h in
      let p : n + 1 + length cs ≡ n + length (c ∷ cs) = omega arith in
      step (cs ++ rest) ∙ closed.kept (n + 1) k' rest ∙ ap₂ (λ (i j : ℕ). kept_from false i j rest) p (sym (step cs));
}

closed-pair : (c : ℕ) (cs : List ℕ) → IsClosed cs → IsClosed (92 ∷ c ∷ cs)
closed-pair c cs closed = record {
  kept = λ n k rest.
      let step : (ys : List ℕ) → kept_from false n k (92 ∷ c ∷ ys) ≡ kept_from false (n + 1 + 1) (n + 1 + 1) ys = λ ys. kept-cons false n k 92 (c ∷ ys) ∙ kept-cons true (n + 1) (n + 1) c ys in
      let p : n + 1 + 1 + length cs ≡ n + length {A = ℕ} (92 ∷ c ∷ cs) = omega arith in
      step (cs ++ rest) ∙ closed.kept (n + 1 + 1) (n + 1 + 1) rest ∙ ap₂ (λ (i j : ℕ). kept_from false i j rest) p (sym (step cs));
}

pub hex-plain : (c d : ℕ) → hex_digit c ≡ Some d → eqb c 92 ≡ false
hex-plain c d e = test (eqb c 92) refl
  where
    test : (b : Bool) → eqb c 92 ≡ b → eqb c 92 ≡ false
    test true h = let none : hex_digit c ≡ None = none-at c 92 refl h in cc
    test false h = h

pub low-digit : (h l : Option ℕ) (b : ℕ) → pair_value h l ≡ Some b → (d : ℕ) × (l ≡ Some d)
low-digit None l b e = cc
low-digit (Some x) None b e = cc
low-digit (Some x) (Some d) b e = (d, refl)

value-closed : (text bytes : List ℕ) → SpellsBytes text bytes → IsClosed text
value-closed text bytes no_more = closed-nil
value-closed text bytes (plain b rest more refused slash s) = closed-cons b rest (eqb-other b 92 slash) (value-closed rest more s)
value-closed text bytes (escaped b rest more special s) = closed-pair b rest (value-closed rest more s)
value-closed text bytes (digits h l b rest more hex s) =
    let d = low-digit (hex_digit h) (hex_digit l) b hex in
    closed-pair h (l ∷ rest) (closed-cons l rest (hex-plain l d.0 d.1) (value-closed rest more s))

-- ---- names

pub name-char-not : (k c : ℕ) → is_name_char k ≡ false → is_name_char c ≡ true → eqb c k ≡ false
name-char-not k c none h = test (eqb c k) refl
  where
    test : (b : Bool) → eqb c k ≡ b → eqb c k ≡ false
    test true e = let same : c ≡ k = same-number c k e in absurd (false≢true (sym none ∙ ap is_name_char (sym same) ∙ h))
    test false e = e

name-closed : (name : List ℕ) → list_all is_name_char name ≡ true → IsClosed name
name-closed [] h = closed-nil
name-closed (c ∷ cs) h =
    closed-cons c cs (name-char-not 92 c refl (and-left (is_name_char c) (list_all is_name_char cs) h)) (name-closed cs (and-right (is_name_char c) (list_all is_name_char cs) h))

name-front : (name : List ℕ) → list_all is_name_char name ≡ true → space_count name ≡ 0
name-front [] h = space_count-nil
name-front (c ∷ cs) h = space_count-cons c cs ∙ pick-false (eqb c 32) _ _ (name-char-not 32 c refl (and-left (is_name_char c) (list_all is_name_char cs) h))

kept-name : (n : ℕ) (cs : List ℕ) → list_all is_name_char cs ≡ true → kept_from false n n cs ≡ n + length cs
kept-name n [] h = kept-nil false n n ∙ sym (add-zero n)
kept-name n (c ∷ cs) h =
    let first : is_name_char c ≡ true = and-left (is_name_char c) (list_all is_name_char cs) h in
    let p : n + 1 + length cs ≡ n + length (c ∷ cs) = omega arith in
    kept-cons false n n c cs
    ∙ ap₂ (λ (f : Bool) (i : ℕ). kept_from f (n + 1) i cs) (name-char-not 92 c refl first) (pick-false (eqb c 32) n (n + 1) (name-char-not 32 c refl first))
    ∙ kept-name (n + 1) cs (and-right (is_name_char c) (list_all is_name_char cs) h)
    ∙ p

name-back : (name : List ℕ) → list_all is_name_char name ≡ true → kept_len name ≡ length name
name-back name h = kept-name 0 name h ∙ zero-add (length name)

-- ---- before the first separator

abbrev pub is_plain : ℕ → ℕ → Bool
is_plain by c = not (eqb c by) && not (eqb c 92)

pub bare-skip : (by : ℕ) (xs ys : List ℕ) → list_all (is_plain by) xs ≡ true → bare_len by false (xs ++ ys) ≡ length xs + bare_len by false ys
bare-skip by [] ys h = sym (zero-add (bare_len by false ys))
bare-skip by (c ∷ cs) ys h =
    let first : is_plain by c ≡ true = and-left (is_plain by c) (list_all (is_plain by) cs) h in
    let not_by : eqb c by ≡ false = not_true (eqb c by) (and-left (not (eqb c by)) (not (eqb c 92)) first) in
    let not_slash : eqb c 92 ≡ false = not_true (eqb c 92) (and-right (not (eqb c by)) (not (eqb c 92)) first) in
    let p : length cs + bare_len by false ys + 1 ≡ length (c ∷ cs) + bare_len by false ys = omega arith in
    bare_len-later by false c (cs ++ ys) not_by
    ∙ ap (λ (f : Bool). bare_len by f (cs ++ ys) + 1) not_slash
    ∙ ap (λ (n : ℕ). n + 1) (bare-skip by cs ys (and-right (is_plain by c) (list_all (is_plain by) cs) h))
    ∙ p

all-append : (p : ℕ → Bool) (xs ys : List ℕ) → list_all p xs ≡ true → list_all p ys ≡ true → list_all p (xs ++ ys) ≡ true
all-append p [] ys h k = k
all-append p (x ∷ xs) ys h k = ap₂ ◌&&◌ (and-left (p x) (list_all p xs) h) (all-append p xs ys (and-right (p x) (list_all p xs) h) k)

spaces-plain : (a : ℕ) → list_all (is_plain 61) (spaces a) ≡ true
spaces-plain zero = refl
spaces-plain (suc a) = spaces-plain a

name-plain : (name : List ℕ) → list_all is_name_char name ≡ true → list_all (is_plain 61) name ≡ true
name-plain [] h = refl
name-plain (c ∷ cs) h =
    let first : is_name_char c ≡ true = and-left (is_name_char c) (list_all is_name_char cs) h in
    ap₂ ◌&&◌
    (ap₂ (λ (a b : Bool). not a && not b) (name-char-not 61 c refl first) (name-char-not 92 c refl first))
    (name-plain cs (and-right (is_name_char c) (list_all is_name_char cs) h))

-- ---- one part

part-split : (avas : List Ava) (s : Span) (left right : List ℕ) → s.text ≡ left ++ 61 ∷ right → list_all (is_plain 61) left ≡ true
    → part_in avas s ≡ (attr_in (trimmed s.start left) >>= beside avas (trimmed s.start left) (trimmed (s.start + length left + 1) right))
unfolding part_in
part-split avas s left right e h =
    let n : bare_len 61 false s.text ≡ length left = ap (bare_len 61 false) e ∙ bare-skip 61 left (61 ∷ right) h ∙ ap (λ (i : ℕ). length left + i) (bare_len-first 61 false 61 right refl) ∙ add-zero (length left) in
    let long : length s.text ≡ length left + suc (length right) = ap length e ∙ length-append left (61 ∷ right) in
    let lt : nat_lt (bare_len 61 false s.text) (length s.text) ≡ true = grind (arith, nat_tests) in
    let front : take (length left) s.text ≡ left = ap (take (length left)) e ∙ take_at left (61 ∷ right) (length left) refl in
    let back : drop (length left + 1) s.text ≡ right = ap (drop (length left + 1)) (e ∙ sym (append_assoc left (61 ∷ []) right)) ∙ drop_at (left ++ 61 ∷ []) right (length left + 1) (length-append left (61 ∷ [])) in
    pick-true _ _ _ lt
    ∙ ap (λ (i : ℕ). attr_in (trimmed s.start (take i s.text)) >>= beside avas (trimmed s.start (take i s.text)) (trimmed (s.start + i + 1) (drop (i + 1) s.text))) n
    ∙ ap₂ (λ (l r : List ℕ). attr_in (trimmed s.start l) >>= beside avas (trimmed s.start l) (trimmed (s.start + length left + 1) r)) front back

attr-read : (s : Span) (name : List ℕ) → s.text ≡ name → bad_name name ≡ None → attr_in s ≡ Ok (record { name = key_of name })
unfolding attr_in
attr-read s name e h = ap (λ (t : List ℕ). named t s.start (bad_name t)) e ∙ ap (named name s.start) h

value-part : (attr : AttrKey) (s : Span) (text value : List ℕ) → s.text ≡ text → SpellsValue text value → bad_value (kind_of attr.name) value ≡ None
    → value_in attr s ≡ Ok (record { attr = attr; val = record { key = value_key (kind_of attr.name) value; spelled = value } })
unfolding value_in
value-part attr s text value e h k =
    ap (λ (t : List ℕ). cond (begins_hash t) (bad s.start HexForm) (value_of s.start t >>= λ spelled. keyed attr s.start spelled (bad_value (kind_of attr.name) spelled))) e
    ∙ pick-false (begins_hash text) _ _ h.no_hash
    ∙ ap (λ r. r >>= λ spelled. keyed attr s.start spelled (bad_value (kind_of attr.name) spelled)) (value-read s.start text value h.bytes)
    ∙ ap (keyed attr s.start value) k

pub part-read : (avas : List Ava) (s : Span) (a : Ava) → SpellsPart s.text a → has_attr a.attr.name avas ≡ false → part_in avas s ≡ Ok a
part-read avas s a p new =
    let chars : list_all is_name_char p.name ≡ true = bad_name-chars p.name p.is_name in
    let left : List ℕ = spaces p.before_name ++ (p.name ++ spaces p.after_name) in
    let right : List ℕ = spaces p.before_value ++ (p.value ++ spaces p.after_value) in
    let plain_left : list_all (is_plain 61) left ≡ true = all-append (is_plain 61) (spaces p.before_name) (p.name ++ spaces p.after_name) (spaces-plain p.before_name) (all-append (is_plain 61) p.name (spaces p.after_name) (name-plain p.name chars) (spaces-plain p.after_name)) in
    let name_text : (trimmed s.start left).text ≡ p.name = trimmed-text s.start p.before_name p.after_name p.name (name-front p.name chars) (name-back p.name chars) (name-closed p.name chars) in
    let value_text : (trimmed (s.start + length left + 1) right).text ≡ p.value = trimmed-text (s.start + length left + 1) p.before_value p.after_value p.value p.spelled.front p.spelled.back (value-closed p.value a.val.spelled p.spelled.bytes) in
    let attr_is : record { name = key_of p.name } ≡ a.attr = ap (λ (n : List ℕ). let r : AttrKey = record { name = n } in r) (sym p.attr) in
    let named_so : attr_in (trimmed s.start left) ≡ Ok a.attr = attr-read (trimmed s.start left) p.name name_text p.is_name ∙ ap Ok attr_is in
    part-split avas s left right p.parts plain_left
    ∙ ap (λ r. r >>= beside avas (trimmed s.start left) (trimmed (s.start + length left + 1) right)) named_so
    ∙ pick-false (has_attr a.attr.name avas) _ _ new
    ∙ value-part a.attr (trimmed (s.start + length left + 1) right) p.value a.val.spelled value_text p.spelled p.accepted
    ∙ ap (λ (k : List ℕ). Ok (record { attr = a.attr; val = record { key = k; spelled = a.val.spelled } })) (sym p.key)

-- ---- the parts, the RDN and the name

abbrev pub texts_of : List Span → List (List ℕ)
texts_of ss = map (λ (s : Span). s.text) ss

-- the pieces of a text are the same wherever it begins
front-texts : (at bt c : ℕ) (ss tt : List Span) → texts_of ss ≡ texts_of tt → texts_of (put_front at c ss) ≡ texts_of (put_front bt c tt)
front-texts at bt c [] [] e = refl
front-texts at bt c [] (t ∷ tt) e = cc
front-texts at bt c (s ∷ ss) [] e = cc
front-texts at bt c (s ∷ ss) (t ∷ tt) e =
    let first : s.text ≡ t.text = cc in
    let rest : texts_of ss ≡ texts_of tt = cc in
    ap₂ (λ (x : List ℕ) (xs : List (List ℕ)). (c ∷ x) ∷ xs) first rest

pub pieces-texts : (by : ℕ) (f : Bool) (at bt : ℕ) (text : List ℕ) → texts_of (pieces_from by f at text) ≡ texts_of (pieces_from by f bt text)
unfolding pieces_from
pieces-texts by f at bt [] = refl
pieces-texts by f at bt (c ∷ cs) = at_byte (is_bare f by c) (pieces-texts by false (at + 1) (bt + 1) cs) (pieces-texts by (escapes_next f c) (at + 1) (bt + 1) cs)
  where
    at_byte : (b : Bool) → texts_of (pieces_from by false (at + 1) cs) ≡ texts_of (pieces_from by false (bt + 1) cs)
        → texts_of (pieces_from by (escapes_next f c) (at + 1) cs) ≡ texts_of (pieces_from by (escapes_next f c) (bt + 1) cs)
        → texts_of (cond b (span at [] ∷ pieces_from by false (at + 1) cs) (put_front at c (pieces_from by (escapes_next f c) (at + 1) cs)))
        ≡ texts_of (cond b (span bt [] ∷ pieces_from by false (bt + 1) cs) (put_front bt c (pieces_from by (escapes_next f c) (bt + 1) cs)))
    at_byte true here later = ap (λ (ts : List (List ℕ)). [] ∷ ts) here
    at_byte false here later = front-texts at bt c (pieces_from by (escapes_next f c) (at + 1) cs) (pieces_from by (escapes_next f c) (bt + 1) cs) later

pub parts-cons : (avas : List Ava) (s : Span) (ss : List Span) → parts_in avas (s ∷ ss) ≡ (part_in avas s >>= λ a. parts_in (put_part a avas) ss)
unfolding parts_in
parts-cons avas s ss = refl

pub parts-nil : (avas : List Ava) → parts_in avas [] ≡ Ok avas
unfolding parts_in
parts-nil avas = refl

parts-read : (avas all : List Ava) (ss : List Span) (texts : List (List ℕ)) → texts_of ss ≡ texts → SpellsParts avas texts all → parts_in avas ss ≡ Ok all
parts-read avas all [] texts e (no_part done) = parts-nil avas
parts-read avas all (s ∷ ss) texts e (no_part done) = cc
parts-read avas all [] texts e (one_more before last text rest a p new more) = cc
parts-read avas all (s ∷ ss) texts e (one_more before last text rest a p new more) =
    let first : s.text ≡ text = cc in
    let others : texts_of ss ≡ rest = cc in
    let one : SpellsPart s.text a = subst (λ (t : List ℕ). SpellsPart t a) (sym first) p in
    parts-cons avas s ss ∙ ap (λ r. r >>= λ (b : Ava). parts_in (put_part b avas) ss) (part-read avas s a one new) ∙ parts-read (put_part a avas) all ss rest others more

rdn-read : (s : Span) (rdn : Rdn) → SpellsRdn s.text rdn → rdn_in s ≡ Ok rdn
unfolding rdn_in
rdn-read s rdn h = ap (λ r. r >>= λ (avas : List Ava). let q : Rdn = record { avas = avas } in Ok q) (parts-read [] rdn.avas (pieces 43 s.start s.text) (cut_at 43 s.text) (pieces-texts 43 false s.start 0 s.text) h)

rdns-read : (ss : List Span) (rdns : List Rdn) → SpellsRdns (texts_of ss) rdns → rdns_in ss ≡ Ok rdns
unfolding rdns_in
rdns-read [] [] h = refl
rdns-read [] (r ∷ rs) h = absurd h
rdns-read (s ∷ ss) [] h = absurd h
rdns-read (s ∷ ss) (r ∷ rs) h =
    ap (λ x. x >>= λ (q : Rdn). rdns_in ss >>= λ qs. Ok (q ∷ qs)) (rdn-read s r h.0) ∙ ap (λ x. x >>= λ (qs : List Rdn). Ok (r ∷ qs)) (rdns-read ss rs h.1)

-- WHAT SPELLS A NAME IS READ AS IT
pub name-read : (text : List ℕ) (dn : Dn) → SpellsName text dn → dn_in text ≡ Ok dn
unfolding dn_in
name-read [] dn h = ap (λ (rdns : List Rdn). let d : Dn = record { rdns = rdns } in Ok d) (sym h)
name-read (c ∷ cs) dn h =
    let some : eqb (length (c ∷ cs)) 0 ≡ false = grind (arith, nat_tests) in
    pick-false _ _ _ some ∙ ap (λ x. x >>= λ (rdns : List Rdn). let d : Dn = record { rdns = rdns } in Ok d) (rdns-read (pieces 44 0 (c ∷ cs)) dn.rdns h)
