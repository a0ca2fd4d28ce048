-- What is printed spells the name.
use Rattle.std.proofs.Common.{◌≡◌, ◌≢◌, ℕ, zero, suc, ◌+◌, ◌*◌, ◌/◌, ◌%◌, ◌<◌, Bool, true, false, cond, eqb, List, [], ◌∷◌, ◌++◌, length, slice_index, Some, None, refl, sym, ap, ap₂, subst, ◌∙◌, append_assoc, zero-add, arith}
use Rattle.std.specs.Prelude.{◌==◌, ◌||◌}
use Rattle.std.proofs.lemmas.List.{length-append, append-nil}
use Rattle.std.proofs.lemmas.Bool.{false≢true}
use Rattle.std.proofs.lemmas.Bool.Decides.{nat_tests}
use Rattle.hex.specs.Hex.{lower_digits, encode_with, encode_lower}
use Rattle.repl_data.specs.Text.{escape_always, escape_as_hex, escaped, escaped_rest, escaped_value}
use Rattle.repl_data.proofs.Bools.{cases, either_true, or-left, or-right}
use Rattle.dn_text.specs.Split.{bare_len, space_count, kept_from, kept_len}
use Rattle.dn_text.specs.Escape.{is_special, is_refused, hex_digit, hex_byte, pair_value}
use Rattle.dn_text.specs.Reading.{begins_hash}
use Rattle.dn_text.specs.Spelling as spelling
use Rattle.dn_text.specs.Spelling.{SpellsBytes, SpellsValue}
use Rattle.dn_text.proofs.Pieces.{bare_len-later}
use Rattle.dn_text.proofs.Spelled.{same-number, pick-true, pick-false, kept-cons, kept-nil, space_count-cons, space_count-nil, eqb-other, none-at, low-digit}

-- ---- hexadecimal digits

digit-at : (x : ℕ) → x < 16 → hex_digit (slice_index lower_digits x) ≡ Some x
digit-at zero h = refl
digit-at (suc zero) h = refl
digit-at (suc (suc zero)) h = refl
digit-at (suc (suc (suc zero))) h = refl
digit-at (suc (suc (suc (suc zero)))) h = refl
digit-at (suc (suc (suc (suc (suc zero))))) h = refl
digit-at (suc (suc (suc (suc (suc (suc zero)))))) h = refl
digit-at (suc (suc (suc (suc (suc (suc (suc zero))))))) h = refl
digit-at (suc (suc (suc (suc (suc (suc (suc (suc zero)))))))) h = refl
digit-at (suc (suc (suc (suc (suc (suc (suc (suc (suc zero))))))))) h = refl
digit-at (suc (suc (suc (suc (suc (suc (suc (suc (suc (suc zero)))))))))) h = refl
digit-at (suc (suc (suc (suc (suc (suc (suc (suc (suc (suc (suc zero))))))))))) h = refl
digit-at (suc (suc (suc (suc (suc (suc (suc (suc (suc (suc (suc (suc zero)))))))))))) h = refl
digit-at (suc (suc (suc (suc (suc (suc (suc (suc (suc (suc (suc (suc (suc zero))))))))))))) h = refl
digit-at (suc (suc (suc (suc (suc (suc (suc (suc (suc (suc (suc (suc (suc (suc zero)))))))))))))) h = refl
digit-at (suc (suc (suc (suc (suc (suc (suc (suc (suc (suc (suc (suc (suc (suc (suc zero))))))))))))))) h = refl
digit-at (suc (suc (suc (suc (suc (suc (suc (suc (suc (suc (suc (suc (suc (suc (suc (suc n)))))))))))))))) h = absurd (omega arith)

high_of : ℕ → ℕ
high_of b = slice_index lower_digits (b / 16)

low_of : ℕ → ℕ
low_of b = slice_index lower_digits (b % 16)

encode-one : (b : ℕ) → encode_lower (b ∷ []) ≡ high_of b ∷ low_of b ∷ []
unfolding encode_with high_of low_of
encode-one b = refl

-- the two digits spell the byte
pair-of : (b : ℕ) → b < 256 → hex_byte (high_of b) (low_of b) ≡ Some b
unfolding high_of low_of
pair-of b h =
    let high : b / 16 < 16 = omega arith in
    let low : b % 16 < 16 = omega arith in
    let sum : 16 * (b / 16) + b % 16 ≡ b = omega arith in
    ap₂ pair_value (digit-at (b / 16) high) (digit-at (b % 16) low) ∙ ap Some sum

-- ---- a printed value

-- The text of a value as it is printed: no byte that separates stands in it as it is, and no space at its end.
data Printed : List ℕ → List ℕ → Type 0 where
  ends : Printed [] []
  as_it_is : (b : ℕ) (text bytes : List ℕ) → escape_always b ≡ false → (text ≡ [] → eqb b 32 ≡ false) → Printed text bytes → Printed (b ∷ text) (b ∷ bytes)
  behind_slash : (b : ℕ) (text bytes : List ℕ) → is_special b ≡ true → Printed text bytes → Printed (92 ∷ b ∷ text) (b ∷ bytes)
  as_digits : (high low b : ℕ) (text bytes : List ℕ) → hex_byte high low ≡ Some b → Printed text bytes → Printed (92 ∷ high ∷ low ∷ text) (b ∷ bytes)

-- a byte that need not be escaped is none of those
other-byte : (k b : ℕ) → escape_always k ≡ true → escape_always b ≡ false → eqb b k ≡ false
other-byte k b always h =
    cases (eqb b k)
    (λ e. absurd (false≢true (sym h ∙ ap escape_always (same-number b k e) ∙ always)))
    (λ e. e)

not-refused : (b : ℕ) → escape_always b ≡ false → is_refused b ≡ false
not-refused b h =
    ap₂ ◌||◌ (ap₂ ◌||◌ (ap₂ ◌||◌ (other-byte 34 b refl h) (other-byte 59 b refl h)) (other-byte 60 b refl h)) (other-byte 62 b refl h)

not-slash : (b : ℕ) → escape_always b ≡ false → b ≢ 92
not-slash b h e = false≢true (sym h ∙ ap escape_always e)

printed-spells : (text bytes : List ℕ) → Printed text bytes → SpellsBytes text bytes
printed-spells text bytes ends = spelling.no_more
printed-spells text bytes (as_it_is b rest more h last p) = spelling.plain b rest more (not-refused b h) (not-slash b h) (printed-spells rest more p)
printed-spells text bytes (behind_slash b rest more h p) = spelling.escaped b rest more h (printed-spells rest more p)
printed-spells text bytes (as_digits x y b rest more h p) = spelling.digits x y b rest more h (printed-spells rest more p)

-- the text has no unescaped byte that is this one, and no backslash takes what follows along
pub record IsUncut (by : ℕ) (text : List ℕ) : Type 0 where
  pub len : (rest : List ℕ) → bare_len by false (text ++ rest) ≡ length text + bare_len by false rest

pub uncut-nil : (by : ℕ) → IsUncut by []
uncut-nil by = record { len = λ rest. sym (zero-add (bare_len by false rest)) }

pub uncut-cons : (by c : ℕ) (cs : List ℕ) → eqb c by ≡ false → eqb c 92 ≡ false → IsUncut by cs → IsUncut by (c ∷ cs)
uncut-cons by c cs h k u = record {
  len = λ rest.
      let p : length cs + bare_len by false rest + 1 ≡ length (c ∷ cs) + bare_len by false rest = omega arith in
      bare_len-later by false c (cs ++ rest) h ∙ ap (λ (f : Bool). bare_len by f (cs ++ rest) + 1) k ∙ ap (λ (n : ℕ). n + 1) (u.len rest) ∙ p;
}

uncut-pair : (by c : ℕ) (cs : List ℕ) → eqb 92 by ≡ false → IsUncut by cs → IsUncut by (92 ∷ c ∷ cs)
uncut-pair by c cs h u = record {
  len = λ rest.
      let p : length cs + bare_len by false rest + 1 + 1 ≡ length {A = ℕ} (92 ∷ c ∷ cs) + bare_len by false rest = omega arith in
      bare_len-later by false 92 (c ∷ cs ++ rest) h ∙ ap (λ (n : ℕ). n + 1) (bare_len-later by true c (cs ++ rest) refl ∙ ap (λ (n : ℕ). n + 1) (u.len rest)) ∙ p;
}

pub uncut-append : (by : ℕ) (xs ys : List ℕ) → IsUncut by xs → IsUncut by ys → IsUncut by (xs ++ ys)
uncut-append by xs ys u v = record {
  len = λ rest.
      let n : length (xs ++ ys) ≡ length xs + length ys = length-append xs ys in
      let p : length xs + (length ys + bare_len by false rest) ≡ length (xs ++ ys) + bare_len by false rest = omega arith in
      ap (bare_len by false) (append_assoc xs ys rest) ∙ u.len (ys ++ rest) ∙ ap (λ (i : ℕ). length xs + i) (v.len rest) ∙ p;
}

hex-other : (k c d : ℕ) → hex_digit k ≡ None → hex_digit c ≡ Some d → eqb c k ≡ false
hex-other k c d none e =
    cases (eqb c k)
    (λ h. let never : hex_digit c ≡ None = none-at c k none h in cc)
    (λ h. h)

-- a separator is no digit, and is escaped
printed-uncut : (by : ℕ) → escape_always by ≡ true → hex_digit by ≡ None → eqb 92 by ≡ false → (text bytes : List ℕ) → Printed text bytes → IsUncut by text
printed-uncut by always none slash text bytes ends = uncut-nil by
printed-uncut by always none slash text bytes (as_it_is b rest more h last p) = uncut-cons by b rest (other-byte by b always h) (eqb-other b 92 (not-slash b h)) (printed-uncut by always none slash rest more p)
printed-uncut by always none slash text bytes (behind_slash b rest more h p) = uncut-pair by b rest slash (printed-uncut by always none slash rest more p)
printed-uncut by always none slash text bytes (as_digits x y b rest more h p) =
    let d = low-digit (hex_digit x) (hex_digit y) b h in
    uncut-pair by x (y ∷ rest) slash (uncut-cons by y rest (hex-other by y d.0 none d.1) (hex-other 92 y d.0 refl d.1) (printed-uncut by always none slash rest more p))

kept-digits : (n k x y d : ℕ) (rest : List ℕ) → hex_digit y ≡ Some d → kept_from false n k (92 ∷ x ∷ y ∷ rest) ≡ kept_from false (n + 1 + 1 + 1) (n + 1 + 1 + 1) rest
kept-digits n k x y d rest h =
    kept-cons false n k 92 (x ∷ y ∷ rest) ∙ kept-cons true (n + 1) (n + 1) x (y ∷ rest)
    ∙ kept-cons false (n + 1 + 1) (n + 1 + 1) y rest
    ∙ ap₂ (λ (f : Bool) (i : ℕ). kept_from f (n + 1 + 1 + 1) i rest) (hex-other 92 y d refl h) (pick-false (eqb y 32) (n + 1 + 1) (n + 1 + 1 + 1) (hex-other 32 y d refl h))

-- all of it is kept
printed-kept : (n k : ℕ) (text bytes : List ℕ) → Printed text bytes → text ≢ [] → kept_from false n k text ≡ n + length text
printed-kept n k text bytes ends never = absurd (never refl)
printed-kept n k text bytes (as_it_is b [] more h last p) never =
    kept-cons false n k b []
    ∙ ap₂ (λ (f : Bool) (i : ℕ). kept_from f (n + 1) i []) (eqb-other b 92 (not-slash b h)) (pick-false (eqb b 32) k (n + 1) (last refl))
    ∙ kept-nil false (n + 1) (n + 1)
printed-kept n k text bytes (as_it_is b (c ∷ cs) more h last p) never =
    let q : n + 1 + length (c ∷ cs) ≡ n + length (b ∷ c ∷ cs) = omega arith in
    let some : (c ∷ cs) ≢ [] = λ e. cc in
    kept-cons false n k b (c ∷ cs)
    ∙ ap (λ (f : Bool). kept_from f (n + 1) (cond (eqb b 32) k (n + 1)) (c ∷ cs)) (eqb-other b 92 (not-slash b h))
    ∙ printed-kept (n + 1) (cond (eqb b 32) k (n + 1)) (c ∷ cs) more p some
    ∙ q
printed-kept n k text bytes (behind_slash b [] more h p) never =
    let q : n + 1 + 1 ≡ n + length {A = ℕ} (92 ∷ b ∷ []) = omega arith in
    kept-cons false n k 92 (b ∷ []) ∙ kept-cons true (n + 1) (n + 1) b [] ∙ kept-nil false (n + 1 + 1) (n + 1 + 1) ∙ q
printed-kept n k text bytes (behind_slash b (c ∷ cs) more h p) never =
    let q : n + 1 + 1 + length (c ∷ cs) ≡ n + length {A = ℕ} (92 ∷ b ∷ c ∷ cs) = omega arith in
    let some : (c ∷ cs) ≢ [] = λ e. cc in
    kept-cons false n k 92 (b ∷ c ∷ cs) ∙ kept-cons true (n + 1) (n + 1) b (c ∷ cs) ∙ printed-kept (n + 1 + 1) (n + 1 + 1) (c ∷ cs) more p some ∙ q
printed-kept n k text bytes (as_digits x y b [] more h p) never =
    let d = low-digit (hex_digit x) (hex_digit y) b h in
    let q : n + 1 + 1 + 1 ≡ n + length {A = ℕ} (92 ∷ x ∷ y ∷ []) = omega arith in
    kept-digits n k x y d.0 [] d.1 ∙ kept-nil false (n + 1 + 1 + 1) (n + 1 + 1 + 1) ∙ q
printed-kept n k text bytes (as_digits x y b (c ∷ cs) more h p) never =
    let d = low-digit (hex_digit x) (hex_digit y) b h in
    let q : n + 1 + 1 + 1 + length (c ∷ cs) ≡ n + length {A = ℕ} (92 ∷ x ∷ y ∷ c ∷ cs) = omega arith in
    let some : (c ∷ cs) ≢ [] = λ e. cc in
    kept-digits n k x y d.0 (c ∷ cs) d.1 ∙ printed-kept (n + 1 + 1 + 1) (n + 1 + 1 + 1) (c ∷ cs) more p some ∙ q

always-special : (b : ℕ) → escape_always b ≡ true → is_special b ≡ true
always-special b h =
    either_true (b == 34) _ h (at 34 refl)
    (λ h. either_true (b == 43) _ h (at 43 refl)
    (λ h. either_true (b == 44) _ h (at 44 refl)
    (λ h. either_true (b == 59) _ h (at 59 refl)
    (λ h. either_true (b == 60) _ h (at 60 refl)
    (λ h. either_true (b == 62) _ h (at 62 refl)
    (λ h. either_true (b == 92) _ h (at 92 refl) (λ h. absurd (false≢true h))))))))
  where
    at : (k : ℕ) → is_special k ≡ true → (b == k) ≡ true → is_special b ≡ true
    at k e h = ap is_special (same-number b k h) ∙ e

hex-small : (b : ℕ) → escape_as_hex b ≡ true → b < 256
hex-small b h = grind (arith, nat_tests)

printed-cons : (edge : Bool) (b : ℕ) (rest bytes : List ℕ) → (edge ≡ true → is_special b ≡ true) → (rest ≡ [] → eqb b 32 ≡ true → edge ≡ true) → Printed rest bytes → Printed (escaped edge b ++ rest) (b ∷ bytes)
printed-cons edge b rest bytes special last p =
    cases (escape_as_hex b)
    (λ h.
    let text : escaped edge b ≡ 92 ∷ high_of b ∷ low_of b ∷ [] = pick-true (escape_as_hex b) _ _ h ∙ ap (λ (xs : List ℕ). 92 ∷ xs) (encode-one b) in
    subst (λ (t : List ℕ). Printed (t ++ rest) (b ∷ bytes)) (sym text) (as_digits (high_of b) (low_of b) b rest bytes (pair-of b (hex-small b h)) p))
    (λ h.
    cases (escape_always b || edge)
    (λ k.
    let text : escaped edge b ≡ 92 ∷ b ∷ [] = pick-false (escape_as_hex b) _ _ h ∙ pick-true (escape_always b || edge) _ _ k in
    subst (λ (t : List ℕ). Printed (t ++ rest) (b ∷ bytes)) (sym text) (behind_slash b rest bytes (either_true (escape_always b) edge k (always-special b) special) p))
    (λ k.
    let text : escaped edge b ≡ b ∷ [] = pick-false (escape_as_hex b) _ _ h ∙ pick-false (escape_always b || edge) _ _ k in
    let no_edge : edge ≡ false = or-right (escape_always b) edge k in
    let never : rest ≡ [] → eqb b 32 ≡ false = λ e. cases (eqb b 32) (λ s. absurd (false≢true (sym no_edge ∙ last e s))) (λ s. s) in
    subst (λ (t : List ℕ). Printed (t ++ rest) (b ∷ bytes)) (sym text) (as_it_is b rest bytes (or-left (escape_always b) edge k) never p)))

printed-some : (text bytes : List ℕ) (b : ℕ) → Printed text (b ∷ bytes) → text ≢ []
printed-some text bytes b p e = longer text (b ∷ bytes) p e refl
  where
    longer : (t bs : List ℕ) → Printed t bs → t ≡ [] → bs ≡ b ∷ bytes → ⊥
    longer t bs ends h k = cc
    longer t bs (as_it_is c rest more a l q) h k = cc
    longer t bs (behind_slash c rest more a q) h k = cc
    longer t bs (as_digits x y c rest more a q) h k = cc

printed-rest : (bs : List ℕ) → Printed (escaped_rest bs) bs
printed-rest [] = ends
printed-rest (b ∷ []) =
    subst (λ (t : List ℕ). Printed t (b ∷ [])) (append-nil (escaped (eqb b 32) b))
    (printed-cons (eqb b 32) b [] [] (λ h. ap is_special (same-number b 32 h)) (λ e h. h) ends)
printed-rest (b ∷ c ∷ bs) =
    printed-cons false b (escaped_rest (c ∷ bs)) (c ∷ bs) (λ h. absurd (false≢true h)) (λ e h. absurd (printed-some (escaped_rest (c ∷ bs)) bs c (printed-rest (c ∷ bs)) e)) (printed-rest (c ∷ bs))

front-special : (b : ℕ) → ((b == 32) || (b == 35)) ≡ true → is_special b ≡ true
front-special b h = either_true (b == 32) (b == 35) h (λ k. ap is_special (same-number b 32 k)) (λ k. ap is_special (same-number b 35 k))

printed-value : (bs : List ℕ) → Printed (escaped_value bs) bs
printed-value [] = ends
printed-value (b ∷ bs) = printed-cons ((b == 32) || (b == 35)) b (escaped_rest bs) bs (front-special b) (λ e h. ap (λ (v : Bool). v || (b == 35)) h) (printed-rest bs)

-- what begins a printed byte
front-byte : (edge : Bool) (b : ℕ) (rest : List ℕ) (P : List ℕ → Type 0) → ((c : ℕ) (cs : List ℕ) → c ≡ 92 → P (c ∷ cs)) → (edge ≡ false → P (b ∷ rest)) → P (escaped edge b ++ rest)
front-byte edge b rest P slash plain_one =
    cases (escape_as_hex b)
    (λ h. subst (λ (t : List ℕ). P (t ++ rest)) (sym (pick-true (escape_as_hex b) _ _ h)) (slash 92 (encode_lower (b ∷ []) ++ rest) refl))
    (λ h. cases (escape_always b || edge)
    (λ k. subst (λ (t : List ℕ). P (t ++ rest)) (sym (pick-false (escape_as_hex b) _ _ h ∙ pick-true (escape_always b || edge) _ _ k)) (slash 92 (b ∷ rest) refl))
    (λ k. subst (λ (t : List ℕ). P (t ++ rest)) (sym (pick-false (escape_as_hex b) _ _ h ∙ pick-false (escape_always b || edge) _ _ k)) (plain_one (or-right (escape_always b) edge k))))

value-front : (bs : List ℕ) → space_count (escaped_value bs) ≡ 0
value-front [] = space_count-nil
value-front (b ∷ bs) =
    front-byte ((b == 32) || (b == 35)) b (escaped_rest bs) (λ (t : List ℕ). space_count t ≡ 0)
    (λ c cs e. space_count-cons c cs ∙ ap (λ (x : ℕ). cond (eqb x 32) (space_count cs + 1) 0) e)
    (λ e. space_count-cons b (escaped_rest bs) ∙ pick-false (eqb b 32) _ _ (or-left (b == 32) (b == 35) e))

value-hash : (bs : List ℕ) → begins_hash (escaped_value bs) ≡ false
value-hash [] = refl
value-hash (b ∷ bs) =
    front-byte ((b == 32) || (b == 35)) b (escaped_rest bs) (λ (t : List ℕ). begins_hash t ≡ false)
    (λ c cs e. ap (λ (x : ℕ). eqb x 35) e)
    (λ e. or-right (b == 32) (b == 35) e)

value-back : (bs : List ℕ) → kept_len (escaped_value bs) ≡ length (escaped_value bs)
value-back [] = kept-nil false 0 0
value-back (b ∷ bs) =
    printed-kept 0 0 (escaped_value (b ∷ bs)) (b ∷ bs) (printed-value (b ∷ bs)) (printed-some (escaped_value (b ∷ bs)) bs b (printed-value (b ∷ bs)))
    ∙ zero-add (length (escaped_value (b ∷ bs)))

pub value-spelled : (bs : List ℕ) → SpellsValue (escaped_value bs) bs
value-spelled bs = record { bytes = printed-spells (escaped_value bs) bs (printed-value bs); front = value-front bs; no_hash = value-hash bs; back = value-back bs }

pub value-uncut : (by : ℕ) → escape_always by ≡ true → hex_digit by ≡ None → eqb 92 by ≡ false → (bs : List ℕ) → IsUncut by (escaped_value bs)
value-uncut by always none slash bs = printed-uncut by always none slash (escaped_value bs) bs (printed-value bs)
