-- The key of an ASCII text is its own key.
use Rattle.std.proofs.Common.{◌≡◌, ℕ, zero, suc, ◌-◌, ◌<◌, Bool, true, false, not, cond, List, [], ◌∷◌, length, map, remove, slice_index, position, IsAscii, Option, Some, None, refl, sym, ap, ap₂, ◌∙◌, arith}
use Rattle.std.specs.Prelude.{◌==◌, ◌&&◌, nat_le, nat_lt}
use Rattle.std.specs.List.{list_all}
use Rattle.std.proofs.lemmas.Bool.{false≢true}
use Rattle.std.proofs.lemmas.Bool.Decides.{nat_tests}
use Rattle.std.specs.Char.{to_ascii_lowercase}
use Rattle.attr_keys.specs.declared.kind.Kind.TheVariants.{Ia5}
use Rattle.repl_data.specs.Key.{folded, squeezed, without_last_space, trimmed}
use Rattle.attr_keys.specs.Value.{bad_value, first_or, prepared, value_key}
use Rattle.repl_data.proofs.TextKeys.{folded-ascii}
use Rattle.attr_keys.proofs.Texts.{ascii-from_none}
use Rattle.repl_data.proofs.Bools.{and-left, and-right, cases}
use Rattle.repl_data.proofs.Sound.{not_true}

-- ---- no space at the front, and no two together

-- no space stands at the front, if the flag says so, and none after another
abbrev tight : Bool → List ℕ → Bool
tight after [] = true
tight after (b ∷ bs) = not (after && (b == 32)) && tight (b == 32) bs

-- without a space at the end
abbrev pub drop_last : List ℕ → List ℕ
drop_last [] = []
drop_last (b ∷ []) = cond (b == 32) [] (b ∷ [])
drop_last (b ∷ c ∷ bs) = b ∷ drop_last (c ∷ bs)

squeezed-tight : (after : Bool) (xs : List ℕ) → tight after (squeezed after xs) ≡ true
squeezed-tight after [] = refl
squeezed-tight after (b ∷ bs) = at (after && (b == 32)) refl (squeezed-tight true bs) (squeezed-tight (b == 32) bs)
  where
    at : (t : Bool) → (after && (b == 32)) ≡ t → tight true (squeezed true bs) ≡ true → tight (b == 32) (squeezed (b == 32) bs) ≡ true → tight after (cond t (squeezed true bs) (b ∷ squeezed (b == 32) bs)) ≡ true
    at true e here later = ap (λ (a : Bool). tight a (squeezed true bs)) (and-left after (b == 32) e) ∙ here
    at false e here later = ap₂ (λ (x y : Bool). not x && y) e later

tight-squeezed : (after : Bool) (xs : List ℕ) → tight after xs ≡ true → squeezed after xs ≡ xs
tight-squeezed after [] h = refl
tight-squeezed after (b ∷ bs) h =
    ap (λ (t : Bool). cond t (squeezed true bs) (b ∷ squeezed (b == 32) bs)) (not_true (after && (b == 32)) (and-left (not (after && (b == 32))) (tight (b == 32) bs) h))
    ∙ ap (λ (xs : List ℕ). b ∷ xs) (tight-squeezed (b == 32) bs (and-right (not (after && (b == 32))) (tight (b == 32) bs) h))

-- one way to write what `without_last_space` computes to
abbrev by_last : List ℕ → ℕ → List ℕ
by_last xs n = cond (slice_index xs n == 32) (remove xs n) xs

by_last-cons : (b c : ℕ) (bs : List ℕ) (n : ℕ) → by_last (b ∷ c ∷ bs) (suc n) ≡ b ∷ by_last (c ∷ bs) n
by_last-cons b c bs n = at (slice_index (c ∷ bs) n == 32)
  where
    at : (t : Bool) → cond t (remove (b ∷ c ∷ bs) (suc n)) (b ∷ c ∷ bs) ≡ b ∷ cond t (remove (c ∷ bs) n) (c ∷ bs)
    at true = refl
    at false = refl

pub last-dropped : (xs : List ℕ) → without_last_space xs ≡ drop_last xs
last-dropped [] = refl
last-dropped (b ∷ []) = refl
last-dropped (b ∷ c ∷ bs) =
    let n : length (b ∷ c ∷ bs) - 1 ≡ suc (length bs) = omega arith in
    let m : length (c ∷ bs) - 1 ≡ length bs = omega arith in
    ap (by_last (b ∷ c ∷ bs)) n ∙ by_last-cons b c bs (length bs) ∙ ap (λ (i : ℕ). b ∷ by_last (c ∷ bs) i) (sym m) ∙ ap (λ (xs : List ℕ). b ∷ xs) (last-dropped (c ∷ bs))

tight-dropped : (after : Bool) (xs : List ℕ) → tight after xs ≡ true → tight after (drop_last xs) ≡ true
tight-dropped after [] h = refl
tight-dropped after (b ∷ []) h = at (b == 32) (and-left (not (after && (b == 32))) true h)
  where
    at : (t : Bool) → not (after && (b == 32)) ≡ true → tight after (cond t [] (b ∷ [])) ≡ true
    at true k = refl
    at false k = ap (λ (x : Bool). x && true) k
tight-dropped after (b ∷ c ∷ bs) h =
    ap₂ ◌&&◌ (and-left (not (after && (b == 32))) (tight (b == 32) (c ∷ bs)) h) (tight-dropped (b == 32) (c ∷ bs) (and-right (not (after && (b == 32))) (tight (b == 32) (c ∷ bs)) h))

dropped-again : (after : Bool) (xs : List ℕ) → tight after xs ≡ true → drop_last (drop_last xs) ≡ drop_last xs
dropped-again after [] h = refl
dropped-again after (b ∷ []) h =
    cases (b == 32)
    (λ t. let e : drop_last (b ∷ []) ≡ [] = ap (λ (v : Bool). cond v [] (b ∷ [])) t in ap drop_last e ∙ sym e)
    (λ f. ap drop_last (ap (λ (v : Bool). cond v [] (b ∷ [])) f))
dropped-again after (b ∷ c ∷ []) h =
    cases (c == 32)
    (λ t.
    let e : drop_last (b ∷ c ∷ []) ≡ b ∷ [] = ap (λ (v : Bool). b ∷ cond v [] (c ∷ [])) t in
    let rest : tight (b == 32) (c ∷ []) ≡ true = and-right (not (after && (b == 32))) (tight (b == 32) (c ∷ [])) h in
    let apart : ((b == 32) && (c == 32)) ≡ false = not_true ((b == 32) && (c == 32)) (and-left (not ((b == 32) && (c == 32))) true rest) in
    let other : (b == 32) ≡ false = left-false (b == 32) (c == 32) t apart in
    ap drop_last e ∙ ap (λ (v : Bool). cond v [] (b ∷ [])) other ∙ sym e)
    (λ f. let e : drop_last (b ∷ c ∷ []) ≡ b ∷ c ∷ [] = ap (λ (v : Bool). b ∷ cond v [] (c ∷ [])) f in ap drop_last e)
  where
    left-false : (x y : Bool) → y ≡ true → (x && y) ≡ false → x ≡ false
    left-false true y k l = absurd (false≢true (sym l ∙ k))
    left-false false y k l = refl
dropped-again after (b ∷ c ∷ d ∷ ds) h =
    ap (λ (xs : List ℕ). b ∷ xs) (dropped-again (b == 32) (c ∷ d ∷ ds) (and-right (not (after && (b == 32))) (tight (b == 32) (c ∷ d ∷ ds)) h))

-- trimmed once, trimmed for good
pub trimmed-again : (xs : List ℕ) → trimmed (trimmed xs) ≡ trimmed xs
trimmed-again xs =
    let ys : List ℕ = squeezed true xs in
    let one : trimmed xs ≡ drop_last ys = last-dropped ys in
    let same : squeezed true (drop_last ys) ≡ drop_last ys = tight-squeezed true (drop_last ys) (tight-dropped true ys (squeezed-tight true xs)) in
    ap trimmed one ∙ ap without_last_space same ∙ last-dropped (drop_last ys) ∙ dropped-again true ys (squeezed-tight true xs) ∙ sym one

-- ---- what holds of each byte holds of each that is left

pub all-squeezed : (p : ℕ → Bool) (after : Bool) (xs : List ℕ) → list_all p xs ≡ true → list_all p (squeezed after xs) ≡ true
all-squeezed p after [] h = refl
all-squeezed p after (b ∷ bs) h = at (after && (b == 32)) (all-squeezed p true bs rest) (all-squeezed p (b == 32) bs rest)
  where
    rest : list_all p bs ≡ true
    rest = and-right (p b) (list_all p bs) h

    at : (t : Bool) → list_all p (squeezed true bs) ≡ true → list_all p (squeezed (b == 32) bs) ≡ true → list_all p (cond t (squeezed true bs) (b ∷ squeezed (b == 32) bs)) ≡ true
    at true here later = here
    at false here later = ap₂ ◌&&◌ (and-left (p b) (list_all p bs) h) later

pub all-dropped : (p : ℕ → Bool) (xs : List ℕ) → list_all p xs ≡ true → list_all p (drop_last xs) ≡ true
all-dropped p [] h = refl
all-dropped p (b ∷ []) h = at (b == 32)
  where
    at : (t : Bool) → list_all p (cond t [] (b ∷ [])) ≡ true
    at true = refl
    at false = h
all-dropped p (b ∷ c ∷ bs) h = ap₂ ◌&&◌ (and-left (p b) (list_all p (c ∷ bs)) h) (all-dropped p (c ∷ bs) (and-right (p b) (list_all p (c ∷ bs)) h))

all-trimmed : (p : ℕ → Bool) (xs : List ℕ) → list_all p xs ≡ true → list_all p (trimmed xs) ≡ true
all-trimmed p xs h = ap (list_all p) (last-dropped (squeezed true xs)) ∙ all-dropped p (squeezed true xs) (all-squeezed p true xs h)

-- ---- ASCII in lower case

abbrev is_low : ℕ → Bool
is_low b = nat_lt b 128 && (to_ascii_lowercase b == b)

low-lower : (b : ℕ) → b < 128 → is_low (to_ascii_lowercase b) ≡ true
low-lower b h = ap₂ ◌&&◌ (first b h) (second b)
  where
    first : (c : ℕ) → c < 128 → nat_lt (to_ascii_lowercase c) 128 ≡ true
    first c k = grind (arith, nat_tests)

    second : (c : ℕ) → (to_ascii_lowercase (to_ascii_lowercase c) == to_ascii_lowercase c) ≡ true
    second c = grind (arith, nat_tests)

all-low : (bs : List ℕ) → IsAscii bs → list_all is_low (map to_ascii_lowercase bs) ≡ true
all-low [] h = refl
all-low (b ∷ bs) h = ap₂ ◌&&◌ (low-lower b (h 0)) (all-low bs (λ i. h (suc i)))

low-ascii : (bs : List ℕ) → list_all is_low bs ≡ true → IsAscii bs
low-ascii [] h = none
  where
    none : IsAscii []
    none zero = omega arith
    none (suc i) = omega arith
low-ascii (b ∷ bs) h = both (below b (and-left (nat_lt b 128) (to_ascii_lowercase b == b) (and-left (is_low b) (list_all is_low bs) h))) (low-ascii bs (and-right (is_low b) (list_all is_low bs) h))
  where
    below : (c : ℕ) → nat_lt c 128 ≡ true → c < 128
    below c k = grind (arith, nat_tests)

    both : b < 128 → IsAscii bs → IsAscii (b ∷ bs)
    both first rest zero = first
    both first rest (suc i) = rest i

low-same : (bs : List ℕ) → list_all is_low bs ≡ true → map to_ascii_lowercase bs ≡ bs
low-same [] h = refl
low-same (b ∷ bs) h =
    ap₂ ◌∷◌ (same b (and-right (nat_lt b 128) (to_ascii_lowercase b == b) (and-left (is_low b) (list_all is_low bs) h))) (low-same bs (and-right (is_low b) (list_all is_low bs) h))
  where
    same : (c : ℕ) → (to_ascii_lowercase c == c) ≡ true → to_ascii_lowercase c ≡ c
    same c k = grind (arith, nat_tests)

key-of_ia5 : (bs : List ℕ) → value_key Ia5 bs ≡ trimmed (folded bs)
unfolding value_key prepared
key-of_ia5 bs = refl

ascii-accepted : (bs : List ℕ) → bad_value Ia5 bs ≡ None → IsAscii bs
unfolding bad_value
ascii-accepted bs h = ascii-from_none bs (first (position (λ b. nat_le 128 b) bs) _ h)
  where
    first : (o later : Option ℕ) → first_or o later ≡ None → o ≡ None
    first None later k = refl
    first (Some x) later k = cc

pub ia5-again : (bs : List ℕ) → bad_value Ia5 bs ≡ None → value_key Ia5 (value_key Ia5 bs) ≡ value_key Ia5 bs
ia5-again bs h =
    let ascii : IsAscii bs = ascii-accepted bs h in
    let key : value_key Ia5 bs ≡ trimmed (map to_ascii_lowercase bs) = key-of_ia5 bs ∙ ap trimmed (folded-ascii bs ascii) in
    let low : list_all is_low (trimmed (map to_ascii_lowercase bs)) ≡ true = all-trimmed is_low (map to_ascii_lowercase bs) (all-low bs ascii) in
    let again : folded (trimmed (map to_ascii_lowercase bs)) ≡ trimmed (map to_ascii_lowercase bs) = folded-ascii (trimmed (map to_ascii_lowercase bs)) (low-ascii (trimmed (map to_ascii_lowercase bs)) low) ∙ low-same (trimmed (map to_ascii_lowercase bs)) low in
    ap (value_key Ia5) key ∙ key-of_ia5 (trimmed (map to_ascii_lowercase bs)) ∙ ap trimmed again ∙ trimmed-again (map to_ascii_lowercase bs) ∙ sym key
