-- What is written is read back, whatever bytes follow: a walk over windows that begin with what was written.
use Rattle.std.proofs.Common.{◌≡◌, ℕ, zero, suc, ◌-◌, ◌+◌, ◌<◌, ◌≤◌, ◌^◌, ◌%◌, Bool, true, false, cond, eqb, ltb, List, [], ◌∷◌, ◌++◌, length, take, drop, Option, Some, None, Result, Ok, refl, sym, ap, subst, ◌∙◌, append_assoc, arith, length-append}
use Rattle.std.specs.Prelude.{ℤ, pos, ◌==◌, ◌||◌, nat_lt, FitsSigned}
use Rattle.std.specs.Int.{w64}
use Rattle.std.specs.List.{flat_map}
use Rattle.std.proofs.lemmas.Bool.{le-ltb, eq-eqb}
use Rattle.std.proofs.lemmas.Bool.Decides.{nat_tests}
use Rattle.std.proofs.lemmas.List.{take_at, drop_at, append-nil}
use Rattle.std.proofs.lemmas.Int.{ints}
use Rattle.ber_core.specs.declared.read.Header.{Header}
use Rattle.ber_core.specs.Element.{IsTag, shortest_length, element}
use Rattle.ber_core.specs.Number.{integer, integer_of, shortest_integer}
use Rattle.ber_core.specs.Reading.{header_at}
use Rattle.ber_core.proofs.Laws.{header_from_element, header_again, header_takes}
use Rattle.ber_core.proofs.Written.{IsElement-element, integer_of-shortest_integer}
use Rattle.ber_core.proofs.Complete.{tag_first}
use Rattle.ber_core.specs.Window.{Stop, Window, Reading, tag_in, tag_here, inside, after, open_here, open_as, octets, int, ended, many_from, many}
use Rattle.ldap_replies.specs.Grammar.{header_bytes, open_exact, exact, exact_optional, exact_int}

-- the window begins with these bytes
pub record Begins (w : Window) (front : List ℕ) : Type 0 where
  pub rest : List ℕ
  pub parts : w.bytes ≡ front ++ rest
  pub fits : length front ≤ w.left
  pub small : w.left < 2 ^ 64

-- these bytes are all that the window is to have
pub record Holds (w : Window) (body : List ℕ) : Type 0 where
  pub rest : List ℕ
  pub parts : w.bytes ≡ body ++ rest
  pub left : w.left ≡ length body
  pub small : w.left < 2 ^ 64

-- the place so many bytes further
abbrev pub step : Window → ℕ → Window
step w n = record { start = w.start; at = w.at + n; left = w.left - n; bytes = drop n w.bytes }

pub begins : (w : Window) (front others : List ℕ) → Holds w (front ++ others) → Begins w front
begins w front others h =
    let left = h.left in
    record { rest = others ++ h.rest; parts = h.parts ∙ append_assoc front others h.rest; fits = omega (arith, length-append front others); small = h.small }

pub begins_whole : (w : Window) (body : List ℕ) → Holds w body → Begins w body
begins_whole w body h = let left = h.left in record { rest = h.rest; parts = h.parts; fits = omega arith; small = h.small }

pub onward : (w : Window) (front others : List ℕ) → Holds w (front ++ others) → Holds (step w (length front)) others
onward w front others h =
    let left = h.left in
    let small = h.small in
    record {
      rest = h.rest;
      parts = ap (λ (bytes : List ℕ). drop (length front) bytes) (h.parts ∙ append_assoc front others h.rest) ∙ drop_at front (others ++ h.rest) (length front) refl;
      left = omega (arith, length-append front others);
      small = omega arith;
    }

pub onward_whole : (w : Window) (body : List ℕ) → Holds w body → Holds (step w (length body)) []
onward_whole w body h = onward w body [] (subst (λ (bytes : List ℕ). Holds w bytes) (sym (append-nil body)) h)

-- ---- elements

length-element : (tag : ℕ) (body : List ℕ) → length (element tag body) ≡ header_bytes (length body) + length body
unfolding element
length-element tag body = omega (arith, length-append (tag ∷ shortest_length (length body)) body)

abbrev pub head : ℕ → ℕ → Header
head tag content = record { tag = tag; size = header_bytes content; content = content }

header_there : (w : Window) (tag : ℕ) (body : List ℕ) → IsTag tag → Begins w (element tag body) → header_at w.left w.bytes ≡ Ok (head tag (length body))
header_there w tag body t b =
    let fits = b.fits in
    let small = b.small in
    let len = length-element tag body in
    let e = IsElement-element tag body t (omega arith) in
    let k = header_from_element (element tag body) body tag e in
    let front = k.0 in
    let whole : length (element tag body) ≡ length front + length body = ap (λ (xs : List ℕ). length xs) k.2 ∙ length-append front body in
    let size : length front ≡ header_bytes (length body) = omega arith in
    let all : w.bytes ≡ front ++ (body ++ b.rest) = b.parts ∙ ap (λ (xs : List ℕ). xs ++ b.rest) k.2 ∙ append_assoc front body b.rest in
    ap (header_at w.left) all ∙ header_again w.left front (body ++ b.rest) tag (length body) k.1 (omega arith) ∙ ap (λ (n : ℕ). Ok (record { tag = tag; size = n; content = length body })) size

pub two_there : (w : Window) (tag : ℕ) (body : List ℕ) → IsTag tag → Begins w (element tag body) → 2 ≤ w.left
two_there w tag body t b =
    let k = header_takes w.left w.bytes (head tag (length body)) (header_there w tag body t b) in
    let m = k.begins in
    m.two

element_parts : (tag : ℕ) (body rest : List ℕ) → element tag body ++ rest ≡ (tag ∷ shortest_length (length body)) ++ (body ++ rest)
unfolding element
element_parts tag body rest = append_assoc (tag ∷ shortest_length (length body)) body rest

pub tag_begins : (w : Window) (tag : ℕ) (body : List ℕ) → IsTag tag → Begins w (element tag body) → tag_here w ≡ Ok tag
tag_begins w tag body t b =
    ap (λ (bytes : List ℕ). tag_in w.start w.at w.left bytes) (b.parts ∙ element_parts tag body b.rest)
    ∙ tag_first w.start w.at w.left tag (shortest_length (length body) ++ (body ++ b.rest)) (two_there w tag body t b) t

pub inside_holds : (w : Window) (tag : ℕ) (body : List ℕ) → Begins w (element tag body) → Holds (inside w (head tag (length body))) body
inside_holds w tag body b =
    let fits = b.fits in
    let small = b.small in
    let len = length-element tag body in
    let front : List ℕ = tag ∷ shortest_length (length body) in
    let count : length front ≡ header_bytes (length body) = omega arith in
    record {
      rest = b.rest;
      parts = ap (λ (bytes : List ℕ). drop (header_bytes (length body)) bytes) (b.parts ∙ element_parts tag body b.rest) ∙ drop_at front (body ++ b.rest) (header_bytes (length body)) count;
      left = refl;
      small = omega arith;
    }

opened_as : (w : Window) (tag : ℕ) (h : Header) → tag_here w ≡ Ok tag → header_at w.left w.bytes ≡ Ok h → open_as tag w ≡ Ok (inside w h, after w h)
unfolding open_as open_here
opened_as w tag h t e = let same : eqb tag tag ≡ true = eq-eqb tag tag refl in rw (t, same, e) refl

abbrev opening : Window × Window → Result (Window × Window) Stop
opening o = Ok o

pub opens : (w : Window) (tag : ℕ) (body : List ℕ) → IsTag tag → Begins w (element tag body) → open_exact tag w ≡ opening (inside w (head tag (length body)), step w (length (element tag body)))
unfolding open_exact
opens w tag body t b =
    let h = head tag (length body) in
    let o = opened_as w tag h (tag_begins w tag body t b) (header_there w tag body t b) in
    let size : eqb (w.at + header_bytes (length body) - w.at) (header_bytes (length body)) ≡ true = eq-eqb _ _ (omega arith) in
    let whole : header_bytes (length body) + length body ≡ length (element tag body) = sym (length-element tag body) in
    rw (o, size) (ap (λ (n : ℕ). opening (inside w h, step w n)) whole)

-- an element is read with what its content is read as
pub exact_back : {A : Type 0} (tag : ℕ) (content : Window → Result A Stop) (w : Window) (body : List ℕ) (x : A) → IsTag tag → Begins w (element tag body)
    → ((v : Window) → Holds v body → content v ≡ Ok x) → exact tag content w ≡ Ok (x, step w (length (element tag body)))
unfolding exact
exact_back tag content w body x t b h =
    let o = opens w tag body t b in
    let i = h (inside w (head tag (length body))) (inside_holds w tag body b) in
    rw (o, i) refl

-- ---- what may be left out

abbrev read_optional : {A : Type 0} → Option A × Window → Result (Option A × Window) Stop
read_optional p = Ok p

not_zero : (n : ℕ) → 2 ≤ n → eqb n 0 ≡ false
not_zero n le = grind (arith, nat_tests)

pub optional_back : {A : Type 0} (tag : ℕ) (content : Window → Result A Stop) (w : Window) (body : List ℕ) (x : A) → IsTag tag → Begins w (element tag body)
    → ((v : Window) → Holds v body → content v ≡ Ok x) → exact_optional tag content w ≡ read_optional (Some x, step w (length (element tag body)))
unfolding exact_optional
optional_back tag content w body x t b h =
    let some = not_zero w.left (two_there w tag body t b) in
    let first = tag_begins w tag body t b in
    let same : eqb tag tag ≡ true = eq-eqb tag tag refl in
    let e = exact_back tag content w body x t b h in
    rw (some, first, same, e) refl

-- it is left out where an element of another tag follows
pub optional_other : {A : Type 0} (tag kind : ℕ) (content : Window → Result A Stop) (w : Window) (body : List ℕ) → eqb kind tag ≡ false → IsTag kind → Begins w (element kind body)
    → exact_optional tag content w ≡ read_optional (None, w)
unfolding exact_optional
optional_other tag kind content w body other t b =
    let some = not_zero w.left (two_there w kind body t b) in
    let first = tag_begins w kind body t b in
    rw (some, first, other) refl

-- and where nothing follows
pub optional_end : {A : Type 0} (tag : ℕ) (content : Window → Result A Stop) (w : Window) → Holds w [] → exact_optional tag content w ≡ read_optional (None, w)
unfolding exact_optional
optional_end tag content w h = let z : eqb w.left 0 ≡ true = eq-eqb w.left 0 h.left in rw z refl

-- ---- how the inside of an element ends

pub ended_back : (w : Window) → Holds w [] → ended w ≡ Ok tt
unfolding ended
ended_back w h = let z : eqb w.left 0 ≡ true = eq-eqb w.left 0 h.left in rw z refl

many_from_back : {A : Type 0} (piece : Window → Reading A) (f : A → List ℕ) → ((w : Window) (x : A) → Begins w (f x) → (piece w ≡ Ok (x, step w (length (f x)))) × (2 ≤ w.left)) → ((x : A) → 0 < length (f x))
    → (n : ℕ) (xs : List A) (w : Window) → Holds w (flat_map f xs) → w.left ≤ n → many_from piece n w ≡ Ok xs
unfolding many_from
many_from_back piece f back some zero [] w h le = refl
many_from_back piece f back some zero (x ∷ xs) w h le = (let b = back w x (begins w (f x) (flat_map f xs) h) in let two = b.1 in absurd (omega arith))
many_from_back piece f back some (suc n) [] w h le = (let z : eqb w.left 0 ≡ true = eq-eqb w.left 0 h.left in rw z refl)
many_from_back piece f back some (suc n) (x ∷ xs) w h le =
    let b = back w x (begins w (f x) (flat_map f xs) h) in
    let more : eqb w.left 0 ≡ false = not_zero w.left b.1 in
    let first = b.0 in
    let long = some x in
    let others = many_from_back piece f back some n xs (step w (length (f x))) (onward w (f x) (flat_map f xs) h) (omega arith) in
    rw (more, first, others) refl

pub many_back : {A : Type 0} (piece : Window → Reading A) (f : A → List ℕ) → ((w : Window) (x : A) → Begins w (f x) → (piece w ≡ Ok (x, step w (length (f x)))) × (2 ≤ w.left)) → ((x : A) → 0 < length (f x))
    → (xs : List A) (w : Window) → Holds w (flat_map f xs) → many piece w ≡ Ok xs
many_back piece f back some xs w h = many_from_back piece f back some w.left xs w h (omega arith)

pub element_some : (tag : ℕ) (body : List ℕ) → 0 < length (element tag body)
element_some tag body = omega (arith, length-element tag body)

-- ---- leaves

pub octets_back : (w : Window) (body : List ℕ) → Holds w body → octets w ≡ Ok body
unfolding octets
octets_back w body h =
    let left = h.left in
    let len : length w.bytes ≡ length body + length h.rest = ap (λ (xs : List ℕ). length xs) h.parts ∙ length-append body h.rest in
    let there : ltb (length w.bytes) w.left ≡ false = le-ltb (length w.bytes) w.left (omega arith) in
    let all : take w.left w.bytes ≡ body = (λ i. take (left i) (h.parts i)) ∙ take_at body h.rest (length body) refl in
    rw (there, all) refl

abbrev read_integer : ℤ → Result ℤ Stop
read_integer z = Ok z

one_to_eight : (bytes : List ℕ) (z : ℤ) → integer_of bytes ≡ Some z → (length bytes == 0 || nat_lt 8 (length bytes)) ≡ false
one_to_eight bytes z e = read (length bytes == 0 || nat_lt 8 (length bytes)) (integer bytes) e
  where
    read : (b : Bool) (x : ℤ) → cond b None (Some x) ≡ Some z → b ≡ false
    read true x is = absurd cc
    read false x is = refl

int_back : (w : Window) (bytes : List ℕ) (z : ℤ) → integer_of bytes ≡ Some z → Holds w bytes → int w ≡ read_integer z
unfolding int
int_back w bytes z e h =
    let fits : (w.left == 0 || nat_lt 8 w.left) ≡ false = ap (λ (n : ℕ). n == 0 || nat_lt 8 n) h.left ∙ one_to_eight bytes z e in
    let all = octets_back w bytes h in
    rw (fits, all, e) refl

fits_width : (n : ℕ) → n < 2 ^ 32 → FitsSigned w64 (pos n)
fits_width n lt = omega (arith, ints)

pub exact_int_back : (w : Window) (n : ℕ) → n < 2 ^ 32 → Holds w (shortest_integer (pos n)) → exact_int w ≡ read_integer (pos n)
unfolding exact_int
exact_int_back w n lt h =
    let bytes = shortest_integer (pos n) in
    let e : integer_of bytes ≡ Some (pos n) = integer_of-shortest_integer (pos n) (fits_width n lt) in
    let i = int_back w bytes (pos n) e h in
    let few : eqb w.left (length bytes) ≡ true = eq-eqb w.left (length bytes) h.left in
    rw (i, few) refl
