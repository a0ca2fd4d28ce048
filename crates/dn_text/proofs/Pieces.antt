-- A text is cut at the first separator, and then the rest is.
use Rattle.std.proofs.Common.{◌≡◌, ℕ, suc, ◌+◌, ◌<◌, ◌≤◌, Bool, true, false, cond, List, [], ◌∷◌, length, take, drop, refl, sym, ap, ap₂, ◌∙◌, add-one, arith, ◌-◌}
use Rattle.std.proofs.lemmas.List.{take_rest, length-take-le}
use Rattle.dn_text.specs.Split.{Span, is_bare, escapes_next, bare_len, put_front, pieces_from}

abbrev pub span : ℕ → List ℕ → Span
span at text = record { start = at; text = text }

pieces-cons : (by : ℕ) (f : Bool) (at c : ℕ) (cs : List ℕ) → pieces_from by f at (c ∷ cs) ≡ cond (is_bare f by c) (span at [] ∷ pieces_from by false (at + 1) cs) (put_front at c (pieces_from by (escapes_next f c) (at + 1) cs))
unfolding pieces_from
pieces-cons by f at c cs = refl

bare_len-cons : (by : ℕ) (f : Bool) (c : ℕ) (cs : List ℕ) → bare_len by f (c ∷ cs) ≡ cond (is_bare f by c) 0 (bare_len by (escapes_next f c) cs + 1)
unfolding bare_len
bare_len-cons by f c cs = refl

pub pieces-here : (by : ℕ) (f : Bool) (at c : ℕ) (cs : List ℕ) → is_bare f by c ≡ true → pieces_from by f at (c ∷ cs) ≡ span at [] ∷ pieces_from by false (at + 1) cs
pieces-here by f at c cs h = pieces-cons by f at c cs ∙ ap (λ (b : Bool). cond b (span at [] ∷ pieces_from by false (at + 1) cs) (put_front at c (pieces_from by (escapes_next f c) (at + 1) cs))) h

pub pieces-later : (by : ℕ) (f : Bool) (at c : ℕ) (cs : List ℕ) → is_bare f by c ≡ false → pieces_from by f at (c ∷ cs) ≡ put_front at c (pieces_from by (escapes_next f c) (at + 1) cs)
pieces-later by f at c cs h = pieces-cons by f at c cs ∙ ap (λ (b : Bool). cond b (span at [] ∷ pieces_from by false (at + 1) cs) (put_front at c (pieces_from by (escapes_next f c) (at + 1) cs))) h

pub bare_len-first : (by : ℕ) (f : Bool) (c : ℕ) (cs : List ℕ) → is_bare f by c ≡ true → bare_len by f (c ∷ cs) ≡ 0
bare_len-first by f c cs h = bare_len-cons by f c cs ∙ ap (λ (b : Bool). cond b 0 (bare_len by (escapes_next f c) cs + 1)) h

pub bare_len-later : (by : ℕ) (f : Bool) (c : ℕ) (cs : List ℕ) → is_bare f by c ≡ false → bare_len by f (c ∷ cs) ≡ bare_len by (escapes_next f c) cs + 1
bare_len-later by f c cs h = bare_len-cons by f c cs ∙ ap (λ (b : Bool). cond b 0 (bare_len by (escapes_next f c) cs + 1)) h

-- the text has a separator
pub pieces-cut : (by : ℕ) (f : Bool) (at : ℕ) (text : List ℕ) (n : ℕ) → bare_len by f text ≡ n → n < length text → pieces_from by f at text ≡ span at (take n text) ∷ pieces_from by false (at + n + 1) (drop (n + 1) text)
pieces-cut by f at [] n e h = absurd (omega arith)
pieces-cut by f at (c ∷ cs) n e h = at_byte (is_bare f by c) refl (λ m k lt. pieces-cut by (escapes_next f c) (at + 1) cs m k lt)
  where
    shorter : (m : ℕ) → drop (suc m + 1) (c ∷ cs) ≡ drop (m + 1) cs
    shorter m = let k : suc m + 1 ≡ suc (m + 1) = omega arith in ap (λ (i : ℕ). drop i (c ∷ cs)) k

    first : n ≡ 0 → is_bare f by c ≡ true → pieces_from by f at (c ∷ cs) ≡ span at (take n (c ∷ cs)) ∷ pieces_from by false (at + n + 1) (drop (n + 1) (c ∷ cs))
    first z b = let p : at + 0 + 1 ≡ at + 1 = omega arith in rw z (pieces-here by f at c cs b ∙ ap (λ (i : ℕ). span at [] ∷ pieces_from by false i cs) (sym p))

    later : (m : ℕ) → n ≡ suc m → is_bare f by c ≡ false → pieces_from by (escapes_next f c) (at + 1) cs ≡ span (at + 1) (take m cs) ∷ pieces_from by false (at + 1 + m + 1) (drop (m + 1) cs) → pieces_from by f at (c ∷ cs) ≡ span at (take n (c ∷ cs)) ∷ pieces_from by false (at + n + 1) (drop (n + 1) (c ∷ cs))
    later m k b rest =
        let p : at + 1 + m + 1 ≡ at + suc m + 1 = omega arith in
        rw k (pieces-later by f at c cs b ∙ ap (put_front at c) rest ∙ ap₂ (λ (i : ℕ) (r : List ℕ). span at (c ∷ take m cs) ∷ pieces_from by false i r) p (sym (shorter m)))

    at_byte : (b : Bool) → is_bare f by c ≡ b → ((m : ℕ) → bare_len by (escapes_next f c) cs ≡ m → m < length cs → pieces_from by (escapes_next f c) (at + 1) cs ≡ span (at + 1) (take m cs) ∷ pieces_from by false (at + 1 + m + 1) (drop (m + 1) cs)) → pieces_from by f at (c ∷ cs) ≡ span at (take n (c ∷ cs)) ∷ pieces_from by false (at + n + 1) (drop (n + 1) (c ∷ cs))
    at_byte true b ih = first (sym e ∙ bare_len-first by f c cs b) b
    at_byte false b ih =
        let m : ℕ = bare_len by (escapes_next f c) cs in
        let k : n ≡ m + 1 = sym e ∙ bare_len-later by f c cs b in
        let lt : m < length cs = omega arith in
        later m (k ∙ add-one m) b (ih m refl lt)

-- the text has no separator
pub pieces-whole : (by : ℕ) (f : Bool) (at : ℕ) (text : List ℕ) → length text ≤ bare_len by f text → pieces_from by f at text ≡ span at text ∷ []
unfolding pieces_from
pieces-whole by f at [] h = refl
pieces-whole by f at (c ∷ cs) h = at_byte (is_bare f by c) refl (λ le. pieces-whole by (escapes_next f c) (at + 1) cs le)
  where
    at_byte : (b : Bool) → is_bare f by c ≡ b → (length cs ≤ bare_len by (escapes_next f c) cs → pieces_from by (escapes_next f c) (at + 1) cs ≡ span (at + 1) cs ∷ []) → pieces_from by f at (c ∷ cs) ≡ span at (c ∷ cs) ∷ []
    at_byte true b ih = let z : bare_len by f (c ∷ cs) ≡ 0 = bare_len-first by f c cs b in absurd (omega arith)
    at_byte false b ih =
        let k : bare_len by f (c ∷ cs) ≡ bare_len by (escapes_next f c) cs + 1 = bare_len-later by f c cs b in
        let le : length cs ≤ bare_len by (escapes_next f c) cs = omega arith in
        pieces-later by f at c cs b ∙ ap (put_front at c) (ih le)

-- the same in the words of a piece and of what is after its separator
pub pieces-parts : (by : ℕ) (f : Bool) (at : ℕ) (text : List ℕ) (n : ℕ) → bare_len by f text ≡ n → n < length text → pieces_from by f at text ≡ span at (take n text) ∷ pieces_from by false (at + length (take n text) + 1) (take (length text - (n + 1)) (drop (n + 1) text))
pieces-parts by f at text n e h =
    let le : n ≤ length text = omega arith in
    let k : at + n + 1 ≡ at + length (take n text) + 1 = ap (λ (i : ℕ). at + i + 1) (sym (length-take-le n text le)) in
    pieces-cut by f at text n e h ∙ ap₂ (λ (i : ℕ) (r : List ℕ). span at (take n text) ∷ pieces_from by false i r) k (sym (take_rest text (n + 1)))
