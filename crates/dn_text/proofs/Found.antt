-- What is read as a name spells it.
use Rattle.std.proofs.Common.{◌≡◌, ◌≢◌, ℕ, zero, suc, ◌+◌, ◌-◌, ◌<◌, ◌≤◌, Bool, true, false, not, cond, eqb, List, [], ◌∷◌, ◌++◌, length, take, drop, Option, Some, None, Result, Ok, Err, refl, sym, ap, ap₂, subst, ◌∙◌, add-one, add-zero, zero-add, arith}
use Rattle.std.specs.Prelude.{nat_lt}
use Rattle.std.specs.Option.{option_to_list}
use Rattle.std.specs.Prelude.{IfOk, IsOkUnless}
use Rattle.std.proofs.lemmas.List.{length-take-le}
use Rattle.std.proofs.lemmas.Bool.{false≢true}
use Rattle.std.proofs.lemmas.Bool.Decides.{nat_tests}
use Rattle.repl_data.specs.declared.change.AttrKey.{AttrKey}
use Rattle.repl_data.specs.declared.change.Ava.{Ava}
use Rattle.repl_data.specs.declared.change.Rdn.{Rdn}
use Rattle.attr_keys.specs.Name.{bad_name}
use Rattle.attr_keys.specs.Table.{key_of, kind_of}
use Rattle.attr_keys.specs.Value.{bad_value, value_key}
use Rattle.dn_text.specs.declared.fault.DnFault.{DnFault}
use Rattle.dn_text.specs.declared.fault.DnFault.TheVariants.{NoMemory, BadDn}
use Rattle.dn_text.specs.declared.fault.DnWhy.TheVariants.{Char, HexForm, Empty, NoEquals, Twice}
use Rattle.dn_text.specs.declared.name.Dn.{Dn}
use Rattle.dn_text.specs.declared.escape.EscapeState.{EscapeState}
use Rattle.dn_text.specs.declared.escape.EscapeState.TheVariants.{Whole, Slash, Digit}
use Rattle.dn_text.specs.Fault.{◌>>=◌, bad, Gives}
use Rattle.dn_text.specs.Split.{Span, is_bare, escapes_next, bare_len, pieces, space_count, kept_from, kept_len, trimmed}
use Rattle.dn_text.specs.Escape.{is_special, is_refused, hex_digit, hex_byte, one_digit, two_digits, next_byte, ended, escapes_from, value_from, value_of}
use Rattle.dn_text.specs.Reading.{attr_in, begins_hash, keyed, named, value_in, has_attr, beside, part_in, without_equals, put_part, parts_in, rdn_in, rdns_in, dn_in}
use Rattle.dn_text.specs.Spelling.{spaces, SpellsBytes, no_more, plain, escaped, digits, SpellsPart, SpellsParts, no_part, one_more, cut_at, SpellsRdn, SpellsRdns, SpellsName}
use Rattle.dn_text.proofs.Pieces.{bare_len-first, bare_len-later}
use Rattle.repl_data.proofs.Bools.{and-right, cases}
use Rattle.dn_text.proofs.Spelled.{same-number, pick-true, pick-false, kept-cons, kept-nil, space_count-cons, space_count-nil, value-cons, parts-cons, parts-nil, texts_of, pieces-texts, name-read}

ok-same : {A : Type 0} (x y : A) → (let r : Result A DnFault = Ok x in r) ≡ Ok y → x ≡ y
ok-same x y e = cc

-- ---- the bytes of a value

-- what stands before a text in this state
abbrev begun : EscapeState → List ℕ → List ℕ
begun Whole text = text
begun (Slash place) text = 92 ∷ text
begun (Digit place high) text = 92 ∷ high ∷ text

record Step (s : EscapeState) (at c : ℕ) (cs bytes : List ℕ) : Type 0 where
  state : EscapeState
  byte : Option ℕ
  rest : List ℕ
  next : next_byte s at c ≡ Ok (state, byte)
  later : value_from state (at + 1) cs ≡ Ok rest
  all : bytes ≡ option_to_list byte ++ rest

value-inv : (s : EscapeState) (at c : ℕ) (cs bytes : List ℕ) → value_from s at (c ∷ cs) ≡ Ok bytes → Step s at c cs bytes
value-inv s at c cs bytes e = by_next (next_byte s at c) refl (sym (value-cons s at c cs) ∙ e)
  where
    by_rest : (t : EscapeState) (b : Option ℕ) (r : Result (List ℕ) DnFault) → next_byte s at c ≡ Ok (t, b) → value_from t (at + 1) cs ≡ r → (r >>= λ bs. Ok (option_to_list b ++ bs)) ≡ Ok bytes → Step s at c cs bytes
    by_rest t b (Ok bs) n l h = let same : option_to_list b ++ bs ≡ bytes = cc in record { state = t; byte = b; rest = bs; next = n; later = l; all = sym same }
    by_rest t b (Err f) n l h = cc

    by_next : (r : Result (EscapeState × Option ℕ) DnFault) → next_byte s at c ≡ r → (r >>= λ n. value_from n.0 (at + 1) cs >>= λ bs. Ok (option_to_list n.1 ++ bs)) ≡ Ok bytes → Step s at c cs bytes
    by_next (Ok (t, b)) n h = by_rest t b (value_from t (at + 1) cs) n refl h
    by_next (Err f) n h = cc

-- a byte after a whole one
whole-step : (at c : ℕ) (cs bytes : List ℕ) (p : Step Whole at c cs bytes) → SpellsBytes (begun p.state cs) p.rest → SpellsBytes (c ∷ cs) bytes
whole-step at c cs bytes p ih =
    cases (is_refused c)
    (λ r. let never : Ok (p.state, p.byte) ≡ bad at Char = sym p.next ∙ pick-true (is_refused c) _ _ r in cc)
    (λ r.
    let next : cond (eqb c 92) (Ok (Slash at, None)) (Ok (Whole, Some c)) ≡ Ok (p.state, p.byte) = sym (pick-false (is_refused c) _ _ r) ∙ p.next in
    cases (eqb c 92)
    (λ b.
    let one : Ok (Slash at, None) ≡ Ok (p.state, p.byte) = sym (pick-true (eqb c 92) _ _ b) ∙ next in
    let both : (Slash at, None) ≡ (p.state, p.byte) = ok-same _ _ one in
    let state : Slash at ≡ p.state = ap (λ (q : EscapeState × Option ℕ). q.0) both in
    let byte : None ≡ p.byte = ap (λ (q : EscapeState × Option ℕ). q.1) both in
    let text : begun p.state cs ≡ c ∷ cs = ap (λ (s : EscapeState). begun s cs) (sym state) ∙ ap (λ (x : ℕ). x ∷ cs) (sym (same-number c 92 b)) in
    let same : p.rest ≡ bytes = ap (λ (o : Option ℕ). option_to_list o ++ p.rest) byte ∙ sym p.all in
    subst (λ (t : List ℕ). SpellsBytes t bytes) text (subst (λ (bs : List ℕ). SpellsBytes (begun p.state cs) bs) same ih))
    (λ b.
    let one : Ok (Whole, Some c) ≡ Ok (p.state, p.byte) = sym (pick-false (eqb c 92) _ _ b) ∙ next in
    let both : (Whole, Some c) ≡ (p.state, p.byte) = ok-same _ _ one in
    let state : Whole ≡ p.state = ap (λ (q : EscapeState × Option ℕ). q.0) both in
    let byte : Some c ≡ p.byte = ap (λ (q : EscapeState × Option ℕ). q.1) both in
    let same : c ∷ p.rest ≡ bytes = ap (λ (o : Option ℕ). option_to_list o ++ p.rest) byte ∙ sym p.all in
    let other : c ≢ 92 = λ e. false≢true (sym b ∙ ap (λ (x : ℕ). eqb x 92) e) in
    subst (λ (bs : List ℕ). SpellsBytes (c ∷ cs) bs) same (plain c cs p.rest r other (subst (λ (s : EscapeState). SpellsBytes (begun s cs) p.rest) (sym state) ih))))

slash-step : (place at c : ℕ) (cs bytes : List ℕ) (p : Step (Slash place) at c cs bytes) → SpellsBytes (begun p.state cs) p.rest → SpellsBytes (92 ∷ c ∷ cs) bytes
slash-step place at c cs bytes p ih =
    cases (is_special c)
    (λ b.
    let one : Ok (Whole, Some c) ≡ Ok (p.state, p.byte) = sym (pick-true (is_special c) _ _ b) ∙ p.next in
    let both : (Whole, Some c) ≡ (p.state, p.byte) = ok-same _ _ one in
    let state : Whole ≡ p.state = ap (λ (q : EscapeState × Option ℕ). q.0) both in
    let byte : Some c ≡ p.byte = ap (λ (q : EscapeState × Option ℕ). q.1) both in
    let same : c ∷ p.rest ≡ bytes = ap (λ (o : Option ℕ). option_to_list o ++ p.rest) byte ∙ sym p.all in
    subst (λ (bs : List ℕ). SpellsBytes (92 ∷ c ∷ cs) bs) same (escaped c cs p.rest b (subst (λ (s : EscapeState). SpellsBytes (begun s cs) p.rest) (sym state) ih)))
    (λ b. by_digit (hex_digit c) (sym (pick-false (is_special c) _ _ b) ∙ p.next))
  where
    by_digit : (d : Option ℕ) → one_digit place c d ≡ Ok (p.state, p.byte) → SpellsBytes (92 ∷ c ∷ cs) bytes
    by_digit None h = cc
    by_digit (Some d) h =
        let both : (Digit place c, None) ≡ (p.state, p.byte) = ok-same _ _ h in
        let state : Digit place c ≡ p.state = ap (λ (q : EscapeState × Option ℕ). q.0) both in
        let byte : None ≡ p.byte = ap (λ (q : EscapeState × Option ℕ). q.1) both in
        let same : p.rest ≡ bytes = ap (λ (o : Option ℕ). option_to_list o ++ p.rest) byte ∙ sym p.all in
        subst (λ (bs : List ℕ). SpellsBytes (92 ∷ c ∷ cs) bs) same (subst (λ (s : EscapeState). SpellsBytes (begun s cs) p.rest) (sym state) ih)

digit-step : (place high at c : ℕ) (cs bytes : List ℕ) (p : Step (Digit place high) at c cs bytes) → SpellsBytes (begun p.state cs) p.rest → SpellsBytes (92 ∷ high ∷ c ∷ cs) bytes
digit-step place high at c cs bytes p ih = by_byte (hex_byte high c) refl p.next
  where
    by_byte : (b : Option ℕ) → hex_byte high c ≡ b → two_digits place b ≡ Ok (p.state, p.byte) → SpellsBytes (92 ∷ high ∷ c ∷ cs) bytes
    by_byte None k h = cc
    by_byte (Some b) k h =
        let both : (Whole, Some b) ≡ (p.state, p.byte) = ok-same _ _ h in
        let state : Whole ≡ p.state = ap (λ (q : EscapeState × Option ℕ). q.0) both in
        let byte : Some b ≡ p.byte = ap (λ (q : EscapeState × Option ℕ). q.1) both in
        let same : b ∷ p.rest ≡ bytes = ap (λ (o : Option ℕ). option_to_list o ++ p.rest) byte ∙ sym p.all in
        subst (λ (bs : List ℕ). SpellsBytes (92 ∷ high ∷ c ∷ cs) bs) same (digits high c b cs p.rest k (subst (λ (s : EscapeState). SpellsBytes (begun s cs) p.rest) (sym state) ih))

value-end : (s : EscapeState) (at : ℕ) → value_from s at [] ≡ (ended s >>= λ u. Ok [])
unfolding value_from
value-end s at = refl

value-found : (s : EscapeState) (at : ℕ) (text bytes : List ℕ) → value_from s at text ≡ Ok bytes → SpellsBytes (begun s text) bytes
value-found Whole at [] bytes e =
    let h : Ok [] ≡ Ok bytes = sym (value-end Whole at) ∙ e in
    let same : [] ≡ bytes = cc in
    subst (λ (bs : List ℕ). SpellsBytes [] bs) same no_more
value-found (Slash place) at [] bytes e = let h : bad place Char ≡ Ok bytes = sym (value-end (Slash place) at) ∙ e in cc
value-found (Digit place high) at [] bytes e = let h : bad place Char ≡ Ok bytes = sym (value-end (Digit place high) at) ∙ e in cc
value-found Whole at (c ∷ cs) bytes e = let p = value-inv Whole at c cs bytes e in whole-step at c cs bytes p (value-found p.state (at + 1) cs p.rest p.later)
value-found (Slash place) at (c ∷ cs) bytes e = let p = value-inv (Slash place) at c cs bytes e in slash-step place at c cs bytes p (value-found p.state (at + 1) cs p.rest p.later)
value-found (Digit place high) at (c ∷ cs) bytes e = let p = value-inv (Digit place high) at c cs bytes e in digit-step place high at c cs bytes p (value-found p.state (at + 1) cs p.rest p.later)

-- ---- spaces around

spaces-front : (text : List ℕ) → text ≡ spaces (space_count text) ++ drop (space_count text) text
spaces-front [] = ap (λ (n : ℕ). spaces n ++ drop n []) (sym space_count-nil)
spaces-front (c ∷ cs) =
    cases (eqb c 32)
    (λ b.
    let n : space_count (c ∷ cs) ≡ suc (space_count cs) = space_count-cons c cs ∙ pick-true (eqb c 32) (space_count cs + 1) 0 b ∙ add-one (space_count cs) in
    let rest : c ∷ cs ≡ spaces (suc (space_count cs)) ++ drop (suc (space_count cs)) (c ∷ cs) = ap₂ (λ (x : ℕ) (xs : List ℕ). x ∷ xs) (same-number c 32 b) (spaces-front cs) in
    rest ∙ ap (λ (i : ℕ). spaces i ++ drop i (c ∷ cs)) (sym n))
    (λ b.
    let n : space_count (c ∷ cs) ≡ 0 = space_count-cons c cs ∙ pick-false (eqb c 32) (space_count cs + 1) 0 b in
    ap (λ (i : ℕ). spaces i ++ drop i (c ∷ cs)) (sym n))

no-front : (text : List ℕ) → space_count (drop (space_count text) text) ≡ 0
no-front [] = ap (λ (n : ℕ). space_count (drop n [])) space_count-nil ∙ space_count-nil
no-front (c ∷ cs) =
    cases (eqb c 32)
    (λ b.
    let n : space_count (c ∷ cs) ≡ suc (space_count cs) = space_count-cons c cs ∙ pick-true (eqb c 32) (space_count cs + 1) 0 b ∙ add-one (space_count cs) in
    ap (λ (i : ℕ). space_count (drop i (c ∷ cs))) n ∙ no-front cs)
    (λ b.
    let n : space_count (c ∷ cs) ≡ 0 = space_count-cons c cs ∙ pick-false (eqb c 32) (space_count cs + 1) 0 b in
    ap (λ (i : ℕ). space_count (drop i (c ∷ cs))) n ∙ n)

no-front-take : (n : ℕ) (text : List ℕ) → space_count text ≡ 0 → space_count (take n text) ≡ 0
no-front-take zero text h = space_count-nil
no-front-take (suc n) [] h = space_count-nil
no-front-take (suc n) (c ∷ cs) h =
    cases (eqb c 32)
    (λ b. let never : space_count cs + 1 ≡ 0 = sym (space_count-cons c cs ∙ pick-true (eqb c 32) (space_count cs + 1) 0 b) ∙ h in absurd (omega arith))
    (λ b. space_count-cons c (take n cs) ∙ pick-false (eqb c 32) (space_count (take n cs) + 1) 0 b)

-- what is kept after this byte
abbrev kept_after : Bool → ℕ → ℕ → ℕ → ℕ
kept_after f n k c = cond (is_bare f 32 c) k (n + 1)

after-within : (f : Bool) (n k c : ℕ) → k ≤ n → (k ≤ kept_after f n k c) × (kept_after f n k c ≤ n + 1)
after-within f n k c h = at_byte (is_bare f 32 c)
  where
    at_byte : (b : Bool) → (k ≤ cond b k (n + 1)) × (cond b k (n + 1) ≤ n + 1)
    at_byte true = (omega arith, omega arith)
    at_byte false = (omega arith, omega arith)

kept-within : (f : Bool) (n k : ℕ) (text : List ℕ) → k ≤ n → (k ≤ kept_from f n k text) × (kept_from f n k text ≤ n + length text)
kept-within f n k [] h =
    let e : kept_from f n k [] ≡ k = kept-nil f n k in
    (omega arith, let p : n + length {A = ℕ} [] ≡ n = add-zero n in omega arith)
kept-within f n k (c ∷ cs) h =
    let e : kept_from f n k (c ∷ cs) ≡ kept_from (escapes_next f c) (n + 1) (kept_after f n k c) cs = kept-cons f n k c cs in
    let w : (k ≤ kept_after f n k c) × (kept_after f n k c ≤ n + 1) = after-within f n k c h in
    let ih : (kept_after f n k c ≤ kept_from (escapes_next f c) (n + 1) (kept_after f n k c) cs) × (kept_from (escapes_next f c) (n + 1) (kept_after f n k c) cs ≤ n + 1 + length cs) = kept-within (escapes_next f c) (n + 1) (kept_after f n k c) cs w.1 in
    let low : k ≤ kept_after f n k c = w.0 in
    let low2 : kept_after f n k c ≤ kept_from (escapes_next f c) (n + 1) (kept_after f n k c) cs = ih.0 in
    let high : kept_from (escapes_next f c) (n + 1) (kept_after f n k c) cs ≤ n + 1 + length cs = ih.1 in
    (omega arith, omega arith)

bare-is : (f : Bool) (by c : ℕ) → is_bare f by c ≡ true → c ≡ by
bare-is f by c h = same-number c by (and-right (not f) (eqb c by) h)

-- nothing more is kept: there are spaces alone
all-spaces : (f : Bool) (n k : ℕ) (text : List ℕ) → k ≤ n → kept_from f n k text ≤ n → (text ≡ spaces (length text)) × (kept_from f n k text ≡ k)
all-spaces f n k [] h low = (refl, kept-nil f n k)
all-spaces f n k (c ∷ cs) h low =
    cases (is_bare f 32 c)
    (λ b.
    let e : kept_from f n k (c ∷ cs) ≡ kept_from (escapes_next f c) (n + 1) k cs = kept-cons f n k c cs ∙ ap (λ (i : ℕ). kept_from (escapes_next f c) (n + 1) i cs) (pick-true (is_bare f 32 c) k (n + 1) b) in
    let ih : (cs ≡ spaces (length cs)) × (kept_from (escapes_next f c) (n + 1) k cs ≡ k) = all-spaces (escapes_next f c) (n + 1) k cs (omega arith) (omega arith) in
    (ap₂ (λ (x : ℕ) (xs : List ℕ). x ∷ xs) (bare-is f 32 c b) ih.0, e ∙ ih.1))
    (λ b.
    let e : kept_from f n k (c ∷ cs) ≡ kept_from (escapes_next f c) (n + 1) (n + 1) cs = kept-cons f n k c cs ∙ ap (λ (i : ℕ). kept_from (escapes_next f c) (n + 1) i cs) (pick-false (is_bare f 32 c) k (n + 1) b) in
    let w : (n + 1 ≤ kept_from (escapes_next f c) (n + 1) (n + 1) cs) × (kept_from (escapes_next f c) (n + 1) (n + 1) cs ≤ n + 1 + length cs) = kept-within (escapes_next f c) (n + 1) (n + 1) cs (omega arith) in
    let more : n + 1 ≤ kept_from (escapes_next f c) (n + 1) (n + 1) cs = w.0 in
    absurd (omega arith))

-- the text is what is kept and then spaces, and of what is kept all is kept
kept-parts : (j : ℕ) (f : Bool) (n k : ℕ) (text : List ℕ) → k ≤ n → kept_from f n k text ≡ n + j → (text ≡ take j text ++ spaces (length text - j)) × (kept_from f n k (take j text) ≡ n + j)
kept-parts zero f n k text h e =
    let low : kept_from f n k text ≤ n = omega arith in
    let a : (text ≡ spaces (length text)) × (kept_from f n k text ≡ k) = all-spaces f n k text h low in
    let z : length text ≡ length text - 0 = omega arith in
    (a.0 ∙ ap spaces z, kept-nil f n k ∙ sym a.1 ∙ e)
kept-parts (suc j) f n k [] h e = let same : kept_from f n k [] ≡ k = kept-nil f n k in absurd (omega arith)
kept-parts (suc j) f n k (c ∷ cs) h e =
    let p : n + suc j ≡ n + 1 + j = omega arith in
    let w : (k ≤ kept_after f n k c) × (kept_after f n k c ≤ n + 1) = after-within f n k c h in
    let ih : (cs ≡ take j cs ++ spaces (length cs - j)) × (kept_from (escapes_next f c) (n + 1) (kept_after f n k c) (take j cs) ≡ n + 1 + j) = kept-parts j (escapes_next f c) (n + 1) (kept_after f n k c) cs w.1 (sym (kept-cons f n k c cs) ∙ e ∙ p) in
    let q : length cs - j ≡ length (c ∷ cs) - suc j = omega arith in
    (ap (λ (xs : List ℕ). c ∷ xs) (ih.0 ∙ ap (λ (i : ℕ). take j cs ++ spaces i) q), kept-cons f n k c (take j cs) ∙ ih.1 ∙ sym p)

record Trimmed (at : ℕ) (text : List ℕ) : Type 0 where
  before : ℕ
  behind : ℕ
  parts : text ≡ spaces before ++ ((trimmed at text).text ++ spaces behind)
  front : space_count (trimmed at text).text ≡ 0
  back : kept_len (trimmed at text).text ≡ length (trimmed at text).text

trimmed-parts : (at : ℕ) (text : List ℕ) → Trimmed at text
trimmed-parts at text =
    let rest : List ℕ = drop (space_count text) text in
    let k : (rest ≡ take (kept_len rest) rest ++ spaces (length rest - kept_len rest)) × (kept_len (take (kept_len rest) rest) ≡ 0 + kept_len rest) = kept-parts (kept_len rest) false 0 0 rest (omega arith) (sym (zero-add (kept_len rest))) in
    let w : (0 ≤ kept_len rest) × (kept_len rest ≤ 0 + length rest) = kept-within false 0 0 rest (omega arith) in
    let le : kept_len rest ≤ 0 + length rest = w.1 in
    record {
      before = space_count text;
      behind = length rest - kept_len rest;
      parts = spaces-front text ∙ ap (λ (r : List ℕ). spaces (space_count text) ++ r) k.0;
      front = no-front-take (kept_len rest) rest (no-front text);
      back = k.1 ∙ zero-add (kept_len rest) ∙ sym (length-take-le (kept_len rest) rest (omega arith));
    }

-- ---- one part

-- the text before and after the first separator
bare-parts : (by : ℕ) (f : Bool) (text : List ℕ) (n : ℕ) → bare_len by f text ≡ n → n < length text → text ≡ take n text ++ by ∷ drop (n + 1) text
bare-parts by f [] n e h = absurd (omega arith)
bare-parts by f (c ∷ cs) n e h =
    cases (is_bare f by c)
    (λ b.
    let z : n ≡ 0 = sym e ∙ bare_len-first by f c cs b in
    rw z (ap (λ (x : ℕ). x ∷ cs) (bare-is f by c b)))
    (λ b.
    let k : n ≡ bare_len by (escapes_next f c) cs + 1 = sym e ∙ bare_len-later by f c cs b in
    let lt : bare_len by (escapes_next f c) cs < length cs = omega arith in
    let ih : cs ≡ take (bare_len by (escapes_next f c) cs) cs ++ by ∷ drop (bare_len by (escapes_next f c) cs + 1) cs = bare-parts by (escapes_next f c) cs (bare_len by (escapes_next f c) cs) refl lt in
    let m : n ≡ suc (bare_len by (escapes_next f c) cs) = k ∙ add-one (bare_len by (escapes_next f c) cs) in
    let q : drop (n + 1) (c ∷ cs) ≡ drop n cs = ap (λ (i : ℕ). drop i (c ∷ cs)) (add-one n) in
    let r : take n (c ∷ cs) ≡ c ∷ take (bare_len by (escapes_next f c) cs) cs = ap (λ (i : ℕ). take i (c ∷ cs)) m in
    ap (λ (xs : List ℕ). c ∷ xs) ih
    ∙ ap₂ (λ (t : List ℕ) (i : ℕ). t ++ by ∷ drop i cs) (sym r) (sym k)
    ∙ ap (λ (d : List ℕ). take n (c ∷ cs) ++ by ∷ d) (sym q))

attr-found : (s : Span) (attr : AttrKey) → attr_in s ≡ Ok attr → (bad_name s.text ≡ None) × (attr.name ≡ key_of s.text)
unfolding attr_in
attr-found s attr e = by_place (bad_name s.text) refl e
  where
    by_place : (o : Option ℕ) → bad_name s.text ≡ o → named s.text s.start o ≡ Ok attr → (bad_name s.text ≡ None) × (attr.name ≡ key_of s.text)
    by_place None k h = (k, sym (ap (λ (a : AttrKey). a.name) (ok-same _ _ h)))
    by_place (Some place) k h = cc

record ValuePart (attr : AttrKey) (s : Span) (a : Ava) : Type 0 where
  spelled : List ℕ
  no_hash : begins_hash s.text ≡ false
  read : value_of s.start s.text ≡ Ok spelled
  accepted : bad_value (kind_of attr.name) spelled ≡ None
  is : record { attr = attr; val = record { key = value_key (kind_of attr.name) spelled; spelled = spelled } } ≡ a

value-part-found : (attr : AttrKey) (s : Span) (a : Ava) → value_in attr s ≡ Ok a → ValuePart attr s a
unfolding value_in
value-part-found attr s a e =
    cases (begins_hash s.text)
    (λ b. let never : bad s.start HexForm ≡ Ok a = sym (pick-true (begins_hash s.text) _ _ b) ∙ e in cc)
    (λ b. by_value b (value_of s.start s.text) refl (sym (pick-false (begins_hash s.text) _ _ b) ∙ e))
  where
    by_place : (spelled : List ℕ) (o : Option ℕ) → begins_hash s.text ≡ false → value_of s.start s.text ≡ Ok spelled → bad_value (kind_of attr.name) spelled ≡ o → keyed attr s.start spelled o ≡ Ok a → ValuePart attr s a
    by_place spelled None b r k h = record { spelled = spelled; no_hash = b; read = r; accepted = k; is = ok-same _ _ h }
    by_place spelled (Some place) b r k h = cc

    by_value : begins_hash s.text ≡ false → (r : Result (List ℕ) DnFault) → value_of s.start s.text ≡ r → (r >>= λ spelled. keyed attr s.start spelled (bad_value (kind_of attr.name) spelled)) ≡ Ok a → ValuePart attr s a
    by_value b (Ok spelled) r h = by_place spelled (bad_value (kind_of attr.name) spelled) b r refl h
    by_value b (Err f) r h = cc

no-equals-never : {A : Type 0} (at : ℕ) (text : List ℕ) (a : A) → without_equals at text ≡ Ok a → ⊥
unfolding without_equals
no-equals-never at text a e =
    cases (eqb (space_count text) (length text))
    (λ b. let never : bad (at + length text) Empty ≡ Ok a = sym (pick-true (eqb (space_count text) (length text)) _ _ b) ∙ e in cc)
    (λ b. by_escapes (escapes_from Whole at text) (sym (pick-false (eqb (space_count text) (length text)) _ _ b) ∙ e))
  where
    by_escapes : (r : Result (Unit {0}) DnFault) → (r >>= λ u. bad (at + length text) NoEquals) ≡ Ok a → ⊥
    by_escapes (Ok u) h = cc
    by_escapes (Err f) h = cc

record FoundPart (avas : List Ava) (s : Span) (a : Ava) (n : ℕ) : Type 0 where
  attr : AttrKey
  named_so : attr_in (trimmed s.start (take n s.text)) ≡ Ok attr
  new : has_attr attr.name avas ≡ false
  value : value_in attr (trimmed (s.start + n + 1) (drop (n + 1) s.text)) ≡ Ok a

beside-found : (avas : List Ava) (s : Span) (a : Ava) (n : ℕ) → (attr_in (trimmed s.start (take n s.text)) >>= beside avas (trimmed s.start (take n s.text)) (trimmed (s.start + n + 1) (drop (n + 1) s.text))) ≡ Ok a → FoundPart avas s a n
beside-found avas s a n e = by_attr (attr_in (trimmed s.start (take n s.text))) refl e
  where
    by_attr : (r : Result AttrKey DnFault) → attr_in (trimmed s.start (take n s.text)) ≡ r → (r >>= beside avas (trimmed s.start (take n s.text)) (trimmed (s.start + n + 1) (drop (n + 1) s.text))) ≡ Ok a → FoundPart avas s a n
    by_attr (Ok attr) k h =
        cases (has_attr attr.name avas)
        (λ b. let never : bad (trimmed s.start (take n s.text)).start Twice ≡ Ok a = sym (pick-true (has_attr attr.name avas) _ _ b) ∙ h in cc)
        (λ b. record { attr = attr; named_so = k; new = b; value = sym (pick-false (has_attr attr.name avas) _ _ b) ∙ h })
    by_attr (Err f) k h = cc

part-spelled : (avas : List Ava) (s : Span) (a : Ava) (n : ℕ) → bare_len 61 false s.text ≡ n → n < length s.text → FoundPart avas s a n → SpellsPart s.text a × (has_attr a.attr.name avas ≡ false)
part-spelled avas s a n e lt p =
    let left : Trimmed s.start (take n s.text) = trimmed-parts s.start (take n s.text) in
    let right : Trimmed (s.start + n + 1) (drop (n + 1) s.text) = trimmed-parts (s.start + n + 1) (drop (n + 1) s.text) in
    let name : (bad_name (trimmed s.start (take n s.text)).text ≡ None) × (p.attr.name ≡ key_of (trimmed s.start (take n s.text)).text) = attr-found (trimmed s.start (take n s.text)) p.attr p.named_so in
    let v : ValuePart p.attr (trimmed (s.start + n + 1) (drop (n + 1) s.text)) a = value-part-found p.attr (trimmed (s.start + n + 1) (drop (n + 1) s.text)) a p.value in
    let attr : p.attr ≡ a.attr = ap (λ (x : Ava). x.attr) v.is in
    let key : value_key (kind_of p.attr.name) v.spelled ≡ a.val.key = ap (λ (x : Ava). x.val.key) v.is in
    let spelled : v.spelled ≡ a.val.spelled = ap (λ (x : Ava). x.val.spelled) v.is in
    let bytes : SpellsBytes (trimmed (s.start + n + 1) (drop (n + 1) s.text)).text v.spelled = value-found Whole _ _ _ v.read in (
      record {
        name = (trimmed s.start (take n s.text)).text;
        value = (trimmed (s.start + n + 1) (drop (n + 1) s.text)).text;
        before_name = left.before;
        after_name = left.behind;
        before_value = right.before;
        after_value = right.behind;
        parts = bare-parts 61 false s.text n e lt ∙ ap₂ (λ (l r : List ℕ). l ++ 61 ∷ r) left.parts right.parts;
        is_name = name.0;
        attr = ap (λ (x : AttrKey). x.name) (sym attr) ∙ name.1;
        spelled = record { bytes = subst (λ (bs : List ℕ). SpellsBytes (trimmed (s.start + n + 1) (drop (n + 1) s.text)).text bs) spelled bytes; front = right.front; no_hash = v.no_hash; back = right.back };
        accepted = ap₂ (λ (x : AttrKey) (bs : List ℕ). bad_value (kind_of x.name) bs) (sym attr) (sym spelled) ∙ v.accepted;
        key = sym key ∙ ap₂ (λ (x : AttrKey) (bs : List ℕ). value_key (kind_of x.name) bs) attr spelled;
      },
      ap (λ (x : AttrKey). has_attr x.name avas) (sym attr) ∙ p.new,
    )

part-found : (avas : List Ava) (s : Span) (a : Ava) → part_in avas s ≡ Ok a → SpellsPart s.text a × (has_attr a.attr.name avas ≡ false)
unfolding part_in
part-found avas s a e =
    cases (nat_lt (bare_len 61 false s.text) (length s.text))
    (λ b.
    let lt : bare_len 61 false s.text < length s.text = grind (arith, nat_tests) in
    part-spelled avas s a (bare_len 61 false s.text) refl lt (beside-found avas s a (bare_len 61 false s.text) (sym (pick-true _ _ _ b) ∙ e)))
    (λ b. absurd (no-equals-never s.start s.text a (sym (pick-false _ _ _ b) ∙ e)))

-- ---- the parts, the RDN and the name

parts-found : (avas all : List Ava) (ss : List Span) → parts_in avas ss ≡ Ok all → SpellsParts avas (texts_of ss) all
parts-found avas all [] e = let same : avas ≡ all = ok-same _ _ (sym (parts-nil avas) ∙ e) in subst (λ (xs : List Ava). SpellsParts avas [] xs) same (no_part avas)
parts-found avas all (s ∷ ss) e = by_part (part_in avas s) refl (sym (parts-cons avas s ss) ∙ e) (λ a h. parts-found (put_part a avas) all ss h)
  where
    by_part : (r : Result Ava DnFault) → part_in avas s ≡ r → (r >>= λ a. parts_in (put_part a avas) ss) ≡ Ok all → ((a : Ava) → parts_in (put_part a avas) ss ≡ Ok all → SpellsParts (put_part a avas) (texts_of ss) all) → SpellsParts avas (texts_of (s ∷ ss)) all
    by_part (Ok a) k h ih =
        let p : SpellsPart s.text a × (has_attr a.attr.name avas ≡ false) = part-found avas s a k in
        one_more avas all s.text (texts_of ss) a p.0 p.1 (ih a h)
    by_part (Err f) k h ih = cc

rdn-found : (s : Span) (rdn : Rdn) → rdn_in s ≡ Ok rdn → SpellsRdn s.text rdn
unfolding rdn_in
rdn-found s rdn e = by_parts (parts_in [] (pieces 43 s.start s.text)) refl e
  where
    by_parts : (r : Result (List Ava) DnFault) → parts_in [] (pieces 43 s.start s.text) ≡ r → (r >>= λ avas. let q : Rdn = record { avas = avas } in Ok q) ≡ Ok rdn → SpellsRdn s.text rdn
    by_parts (Ok avas) k h =
        let same : avas ≡ rdn.avas = ap (λ (q : Rdn). q.avas) (ok-same _ _ h) in
        let found : SpellsParts [] (texts_of (pieces 43 s.start s.text)) avas = parts-found [] avas (pieces 43 s.start s.text) k in
        subst (λ (xs : List Ava). SpellsParts [] (cut_at 43 s.text) xs) same (subst (λ (ts : List (List ℕ)). SpellsParts [] ts avas) (pieces-texts 43 false s.start 0 s.text) found)
    by_parts (Err f) k h = cc

rdns-cons : (s : Span) (ss : List Span) → rdns_in (s ∷ ss) ≡ (rdn_in s >>= λ rdn. rdns_in ss >>= λ rs. Ok (rdn ∷ rs))
unfolding rdns_in
rdns-cons s ss = refl

rdns-nil : rdns_in [] ≡ Ok []
unfolding rdns_in
rdns-nil = refl

rdns-found : (ss : List Span) (rdns : List Rdn) → rdns_in ss ≡ Ok rdns → SpellsRdns (texts_of ss) rdns
rdns-found [] rdns e =
    let same : [] ≡ rdns = ok-same _ _ (sym rdns-nil ∙ e) in
    let none : SpellsRdns [] [] = tt in
    subst (λ (rs : List Rdn). SpellsRdns [] rs) same none
rdns-found (s ∷ ss) rdns e = by_rdn (rdn_in s) refl (sym (rdns-cons s ss) ∙ e) (λ rs h. rdns-found ss rs h)
  where
    by_rest : (rdn : Rdn) → rdn_in s ≡ Ok rdn → (r : Result (List Rdn) DnFault) → rdns_in ss ≡ r → (r >>= λ rs. Ok (rdn ∷ rs)) ≡ Ok rdns → ((rs : List Rdn) → rdns_in ss ≡ Ok rs → SpellsRdns (texts_of ss) rs) → SpellsRdns (texts_of (s ∷ ss)) rdns
    by_rest rdn k (Ok rs) l h ih =
        let same : rdn ∷ rs ≡ rdns = ok-same _ _ h in
        let both : SpellsRdns (texts_of (s ∷ ss)) (rdn ∷ rs) = (rdn-found s rdn k, ih rs l) in
        subst (λ (xs : List Rdn). SpellsRdns (texts_of (s ∷ ss)) xs) same both
    by_rest rdn k (Err f) l h ih = cc

    by_rdn : (r : Result Rdn DnFault) → rdn_in s ≡ r → (r >>= λ rdn. rdns_in ss >>= λ rs. Ok (rdn ∷ rs)) ≡ Ok rdns → ((rs : List Rdn) → rdns_in ss ≡ Ok rs → SpellsRdns (texts_of ss) rs) → SpellsRdns (texts_of (s ∷ ss)) rdns
    by_rdn (Ok rdn) k h ih = by_rest rdn k (rdns_in ss) refl h ih
    by_rdn (Err f) k h ih = cc

-- WHAT IS READ AS A NAME SPELLS IT
pub name-found : (text : List ℕ) (dn : Dn) → dn_in text ≡ Ok dn → SpellsName text dn
unfolding dn_in
name-found [] dn e = sym (ap (λ (d : Dn). d.rdns) (ok-same _ _ e))
name-found (c ∷ cs) dn e =
    let some : eqb (length (c ∷ cs)) 0 ≡ false = grind (arith, nat_tests) in
    by_rdns (rdns_in (pieces 44 0 (c ∷ cs))) refl (sym (pick-false _ _ _ some) ∙ e)
  where
    by_rdns : (r : Result (List Rdn) DnFault) → rdns_in (pieces 44 0 (c ∷ cs)) ≡ r → (r >>= λ rdns. let d : Dn = record { rdns = rdns } in Ok d) ≡ Ok dn → SpellsName (c ∷ cs) dn
    by_rdns (Ok rdns) k h =
        let same : rdns ≡ dn.rdns = ap (λ (d : Dn). d.rdns) (ok-same _ _ h) in
        subst (λ (rs : List Rdn). SpellsRdns (cut_at 44 (c ∷ cs)) rs) same (rdns-found (pieces 44 0 (c ∷ cs)) rdns k)
    by_rdns (Err f) k h = cc

pub found-by : (text : List ℕ) (r : Result Dn DnFault) → Gives r (dn_in text) → IfOk r (SpellsName text)
found-by text (Ok dn) h = name-found text dn h
found-by text (Err e) h = tt

same-name : (dn read : Dn) (r : Result Dn DnFault) → r ≡ Ok read → r ≡ Ok dn → read ≡ dn
same-name dn read r e f = ok-same _ _ (sym e ∙ f)

pub only-by : (text : List ℕ) (r : Result Dn DnFault) → Gives r (dn_in text) → (dn : Dn) → SpellsName text dn → IsOkUnless r NoMemory × IfOk r (λ read. read ≡ dn)
only-by text (Ok read) h dn s = (tt, same-name dn read (dn_in text) h (name-read text dn s))
only-by text (Err NoMemory) h dn s = (refl, tt)
only-by text (Err (BadDn place why)) h dn s = let e : dn_in text ≡ Ok dn = name-read text dn s in let f : dn_in text ≡ Err (BadDn place why) = h in cc
