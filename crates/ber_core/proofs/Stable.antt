-- What is answered stays, whatever bytes follow; More alone may become something else.
use Rattle.std.proofs.Common.{◌≡◌, ℕ, zero, suc, ◌-◌, ◌+◌, ◌<◌, ◌≤◌, ◌%◌, Bool, true, false, cond, ltb, List, [], ◌∷◌, ◌++◌, length, take, drop, Option, Some, None, Result, Ok, Err, refl, sym, ap, ◌∙◌, append_assoc, arith, length-append, inl, inr}
use Rattle.std.proofs.lemmas.Bool.{cases_lt, ltb-false, ltb-true, le-ltb}
use Rattle.std.proofs.lemmas.Bool.Decides.{nat_tests}
use Rattle.std.proofs.lemmas.List.{length-take-le, take-append-le, take-append-drop}
use Rattle.std.specs.Prelude.{◌==◌, ◌||◌, nat_lt}
use Rattle.ber_core.specs.declared.fault.BerFault.{BerFault}
use Rattle.ber_core.specs.declared.fault.BerFault.TheVariants as ber
use Rattle.ber_core.specs.declared.fault.BerWhy.{BerWhy}
use Rattle.ber_core.specs.declared.fault.BerWhy.TheVariants as ber_why
use Rattle.ber_core.specs.declared.read.Header.{Header}
use Rattle.ber_core.specs.Number.{integer_of, boolean_of}
use Rattle.ber_core.specs.Reading.{form_of, digit_count, least_size, header_of, header_size, header_within, if_fine, header_at}
use Rattle.ber_core.proofs.Digits.{least_number_grows}
use Rattle.ber_core.proofs.Laws.{header_takes, header_found, header_again, cond_is_true, cond_is_false}
use Rattle.ber_core.specs.Number.{least_number}
use Rattle.ber_core.specs.declared.fault.NotLdapWhy.{NotLdapWhy}
use Rattle.ber_core.specs.declared.fault.NotLdapWhy.TheVariants as why
use Rattle.ber_core.specs.Window.{Stop, Fault, More, Window, Reading, ◌>>=◌, tag_in, tag_here, inside, after, both, open_here, open_as, octets, or_shape, int, boolean, element, refused, skip_one, skip_from, skip, ended, many_from, many, optional, with_first, run_from, run}

-- ---- headers

less : (a b : ℕ) → a < b → ltb a b ≡ true
less a b lt = grind (arith, nat_tests)

least_grows : (tag b : ℕ) (digits more : List ℕ) → least_size (tag ∷ b ∷ digits) ≤ least_size (tag ∷ b ∷ (digits ++ more))
least_grows tag b digits more =
    elim (cases_lt b 128) [
      | inl lt ↦ rw (cond_is_true b 128 b (least_number (digit_count b) (take (digit_count b) digits)) lt, cond_is_true b 128 b (least_number (digit_count b) (take (digit_count b) (digits ++ more))) lt) (omega arith)
      | inr le ↦ rw (cond_is_false b 128 b (least_number (digit_count b) (take (digit_count b) digits)) le, cond_is_false b 128 b (least_number (digit_count b) (take (digit_count b) (digits ++ more))) le) (omega (arith, least_number_grows (digit_count b) digits more))
    ]

abbrev formed : Result (Unit {0}) BerFault
formed = Ok tt

first_test : (a : Bool) (x : Result (Unit {0}) BerFault) (f : BerFault) → cond a (Err (ber.Bad 0 ber_why.LongTag)) formed ≡ Err f → cond a (Err (ber.Bad 0 ber_why.LongTag)) x ≡ Err f
first_test true x f e = e
first_test false x f e = absurd cc

form_stays : (bytes more : List ℕ) (f : BerFault) → form_of bytes ≡ Err f → form_of (bytes ++ more) ≡ Err f
form_stays [] more f e = absurd cc
form_stays (tag ∷ []) [] f e = e
form_stays (tag ∷ []) (b ∷ more) f e = first_test (tag % 32 == 31) _ f e
form_stays (tag ∷ b ∷ digits) more f e = e

too_large : (a b : Bool) (n place : ℕ) (w : BerWhy) (x : Header) → cond a (Err (ber.Bad 0 ber_why.TooLarge)) (cond b (Err (ber.More n)) (Ok x)) ≡ Err (ber.Bad place w) → (a ≡ true) × (ber.Bad 0 ber_why.TooLarge ≡ ber.Bad place w)
too_large true b n place w x e = (refl, cc)
too_large false true n place w x e = absurd cc
too_large false false n place w x e = absurd cc

within_stays : (limit : ℕ) (bytes more : List ℕ) (place : ℕ) (w : BerWhy) → 2 ≤ limit → form_of bytes ≡ formed → header_within limit bytes ≡ Err (ber.Bad place w)
    → (form_of (bytes ++ more) ≡ formed) × (header_within limit (bytes ++ more) ≡ Err (ber.Bad place w))
unfolding header_within
within_stays limit [] more place w two fine e =
    let k = too_large (ltb limit 2) (ltb 0 2) (2 - 0) place w (header_of []) e in
    let lt = ltb-true limit 2 k.0 in
    absurd (omega arith)
within_stays limit (tag ∷ []) more place w two fine e =
    let k = too_large (ltb limit 2) (ltb 1 2) (2 - 1) place w (header_of (tag ∷ [])) e in
    let lt = ltb-true limit 2 k.0 in
    absurd (omega arith)
within_stays limit (tag ∷ b ∷ digits) more place w two fine e =
    let all = tag ∷ b ∷ digits in
    let k = too_large (ltb limit (least_size all)) (ltb (length all) (header_size all)) (least_size all - length all) place w (header_of all) e in
    let lt = ltb-true limit (least_size all) k.0 in
    let more_than : limit < least_size (tag ∷ b ∷ (digits ++ more)) = omega (arith, least_grows tag b digits more) in
    (fine, rw (less limit (least_size (tag ∷ b ∷ (digits ++ more))) more_than) (ap (λ (f : BerFault). Err f) k.1))

bad_stays : (a : Bool) (r s : Result (Unit {0}) BerFault) (read again : Result Header BerFault) (place : ℕ) (w : BerWhy)
    → ((f : BerFault) → r ≡ Err f → s ≡ Err f) → (a ≡ false → r ≡ formed → read ≡ Err (ber.Bad place w) → (s ≡ formed) × (again ≡ Err (ber.Bad place w)))
    → cond a (Err (ber.Bad 0 ber_why.TooLarge)) (if_fine r read) ≡ Err (ber.Bad place w) → cond a (Err (ber.Bad 0 ber_why.TooLarge)) (if_fine s again) ≡ Err (ber.Bad place w)
bad_stays true r s read again place w f h e = e
bad_stays false (Ok u) s read again place w f h e = let k = h refl refl e in rw (k.0, k.1) refl
bad_stays false (Err g) s read again place w f h e = let k = f g refl in rw k e

pub header_bad_stays : (limit : ℕ) (bytes more : List ℕ) (place : ℕ) (w : BerWhy) → header_at limit bytes ≡ Err (ber.Bad place w) → header_at limit (bytes ++ more) ≡ Err (ber.Bad place w)
unfolding header_at
header_bad_stays limit bytes more place w e =
    bad_stays (ltb limit 2) (form_of bytes) (form_of (bytes ++ more)) (header_within limit bytes) (header_within limit (bytes ++ more)) place w (form_stays bytes more)
    (λ a fine read. within_stays limit bytes more place w (ltb-false limit 2 a) fine read) e

pub header_ok_stays : (limit : ℕ) (bytes more : List ℕ) (h : Header) → header_at limit bytes ≡ Ok h → header_at limit (bytes ++ more) ≡ Ok h
header_ok_stays limit bytes more h e =
    let k = header_takes limit bytes h e in
    let le = k.there in
    let b = k.begins in
    let small = b.small in
    let size_is : header_size bytes ≡ h.size = ap (λ (x : Header). x.size) k.header_is in
    let least : least_size bytes ≡ h.size + h.content = ap (λ (x : Header). x.size + x.content) k.header_is in
    let size : length (take h.size bytes) ≡ h.size = length-take-le h.size bytes (omega arith) in
    let again = header_again limit (take h.size bytes) (drop h.size bytes ++ more) h.tag h.content (header_found limit bytes h e) (omega arith) in
    let all : take h.size bytes ++ (drop h.size bytes ++ more) ≡ bytes ++ more = sym (append_assoc (take h.size bytes) (drop h.size bytes) more) ∙ ap (λ (xs : List ℕ). xs ++ more) (take-append-drop h.size bytes) in
    ap (header_at limit) (sym all) ∙ again ∙ ap (λ (n : ℕ). Ok (record { tag = h.tag; size = n; content = h.content })) size

-- ---- an answer that stays

-- What was answered is answered again, up to R. More may become anything.
pub data Keeps {A : Type 0} (R : A → A → Type 0) : Result A Stop → Result A Stop → Type 0 where
  kept : (x y : A) → R x y → Keeps R (Ok x) (Ok y)
  more_yet : (s : Result A Stop) → Keeps R (Err More) s
  at_fault : (place : ℕ) (w : NotLdapWhy) → Keeps R (Err (Fault place w)) (Err (Fault place w))

abbrev pub with_more : List ℕ → Window → Window
with_more more w = record { start = w.start; at = w.at; left = w.left; bytes = w.bytes ++ more }

-- the same place, with more bytes
abbrev pub Grows : Window → Window → Type 0
Grows w v = (more : List ℕ) × (v ≡ with_more more w)

abbrev pub Equal : {A : Type 0} → A → A → Type 0
Equal x y = x ≡ y

abbrev pub Same : {A : Type 0} → A × Window → A × Window → Type 0
Same p q = (p.0 ≡ q.0) × Grows p.1 q.1

abbrev pub BothGrow : Window × Window → Window × Window → Type 0
BothGrow p q = Grows p.0 q.0 × Grows p.1 q.1

abbrev pub StaysInside : {A : Type 0} → (Window → Result A Stop) → Type 0
StaysInside content = (w v : Window) → Grows w v → Keeps Equal (content w) (content v)

abbrev pub Stays : {A : Type 0} → (Window → Reading A) → Type 0
Stays piece = (w v : Window) → Grows w v → Keeps Same (piece w) (piece v)

pub self : {A : Type 0} (r : Result A Stop) → Keeps Equal r r
self (Ok x) = kept x x refl
self (Err More) = more_yet (Err More)
self (Err (Fault place w)) = at_fault place w

pub and_then : {A B : Type 0} {R : A → A → Type 0} {S : B → B → Type 0} {r s : Result A Stop} {k l : A → Result B Stop} → Keeps R r s → ((x y : A) → R x y → Keeps S (k x) (l y)) → Keeps S (r >>= k) (s >>= l)
and_then (kept x y e) h = h x y e
and_then (more_yet s) h = more_yet _
and_then (at_fault place w) h = at_fault place w

pub choose : {A : Type 0} {R : A → A → Type 0} {r s t u : Result A Stop} (b : Bool) → Keeps R r s → Keeps R t u → Keeps R (cond b r t) (cond b s u)
choose true h k = h
choose false h k = k

-- ---- an element

tag_in_stays : (start at left : ℕ) (bytes more : List ℕ) → Keeps Equal (tag_in start at left bytes) (tag_in start at left (bytes ++ more))
unfolding tag_in
tag_in_stays start at zero bytes more = at_fault start why.Shape
tag_in_stays start at (suc zero) bytes more = at_fault at (why.Ber ber_why.TooLarge)
tag_in_stays start at (suc (suc left)) [] more = more_yet _
tag_in_stays start at (suc (suc left)) (tag ∷ bytes) more = self _

pub tag_stays : StaysInside tag_here
tag_stays w v g = rw g.1 (tag_in_stays w.start w.at w.left w.bytes g.0)

pub drop_append : (n : ℕ) (xs ys : List ℕ) → drop n (xs ++ ys) ≡ drop n xs ++ drop (n - length xs) ys
drop_append zero xs ys = let k : 0 - length xs ≡ 0 = omega arith in rw k refl
drop_append (suc n) [] ys = let k : suc n - length {A = ℕ} [] ≡ suc n = omega arith in rw k refl
drop_append (suc n) (x ∷ xs) ys = let k : suc n - length (x ∷ xs) ≡ n - length xs = omega arith in rw k (drop_append n xs ys)

inside_grows : (w : Window) (more : List ℕ) (h : Header) → Grows (inside w h) (inside (with_more more w) h)
inside_grows w more h = (drop (h.size - length w.bytes) more, rw (drop_append h.size w.bytes more) refl)

after_grows : (w : Window) (more : List ℕ) (h : Header) → Grows (after w h) (after (with_more more w) h)
after_grows w more h = (drop (h.size + h.content - length w.bytes) more, rw (drop_append (h.size + h.content) w.bytes more) refl)

both_stays : (w : Window) (more : List ℕ) (r : Result Header BerFault) → header_at w.left w.bytes ≡ r → Keeps BothGrow (both w r) (both (with_more more w) (header_at w.left (w.bytes ++ more)))
both_stays w more (Ok h) e = rw (header_ok_stays w.left w.bytes more h e) (kept (inside w h, after w h) (inside (with_more more w) h, after (with_more more w) h) (inside_grows w more h, after_grows w more h))
both_stays w more (Err (ber.More n)) e = more_yet _
both_stays w more (Err (ber.Bad place y)) e = rw (header_bad_stays w.left w.bytes more place y e) (at_fault (w.at + place) (why.Ber y))

pub open_stays : (w v : Window) → Grows w v → Keeps BothGrow (open_here w) (open_here v)
unfolding open_here
open_stays w v g = rw g.1 (both_stays w g.0 (header_at w.left w.bytes) refl)

pub refused_stays : {A : Type 0} {R : A → A → Type 0} (w v : Window) → Grows w v → Keeps R (refused w) (refused v)
refused_stays w v g = rw g.1 (at_fault w.at why.Shape)

pub open_as_stays : (tag : ℕ) (w v : Window) → Grows w v → Keeps BothGrow (open_as tag w) (open_as tag v)
unfolding open_as
open_as_stays tag w v g = and_then (tag_stays w v g) (λ t s e. rw (sym e) (choose (t == tag) (open_stays w v g) (refused_stays w v g)))

pub elements_stay : {A : Type 0} (tag : ℕ) (content other : Window → Result A Stop) → ((w v : Window) → Grows w v → Keeps Equal (content w) (other v)) → (w v : Window) → Grows w v → Keeps Same (element tag content w) (element tag other v)
unfolding element
elements_stay tag content other h w v g = and_then (open_as_stays tag w v g) (λ o p b. and_then (h o.0 p.0 b.0) (λ x y e. kept (x, o.1) (y, p.1) (e, b.1)))

pub element_stays : {A : Type 0} (tag : ℕ) (content : Window → Result A Stop) → StaysInside content → Stays (element tag content)
element_stays tag content h = elements_stay tag content content h

-- ---- leaves

octets_by : (left : ℕ) (bytes more : List ℕ) → Keeps Equal (cond (ltb (length bytes) left) (Err More) (Ok (take left bytes))) (cond (ltb (length (bytes ++ more)) left) (Err More) (Ok (take left (bytes ++ more))))
octets_by left bytes more =
    elim (cases_lt (length bytes) left) [
      | inl lt ↦ rw (less (length bytes) left lt) (more_yet _)
      | inr le ↦ rw (le-ltb (length bytes) left le, le-ltb (length (bytes ++ more)) left (omega (arith, length-append bytes more)), take-append-le left bytes more le) (kept (take left bytes) (take left bytes) refl)
    ]

pub octets_stays : StaysInside octets
unfolding octets
octets_stays w v g = rw g.1 (octets_by w.left w.bytes g.0)

pub int_stays : StaysInside int
unfolding int
int_stays w v g = rw g.1 (choose (w.left == 0 || nat_lt 8 w.left) (at_fault w.start why.Shape) (and_then (octets_stays w (with_more g.0 w) (g.0, refl)) (λ x y e. rw (sym e) (self (or_shape w.start (integer_of x))))))

pub boolean_stays : StaysInside boolean
unfolding boolean
boolean_stays w v g = rw g.1 (choose (w.left == 1) (and_then (octets_stays w (with_more g.0 w) (g.0, refl)) (λ x y e. rw (sym e) (self (or_shape w.start (boolean_of x))))) (at_fault w.start why.Shape))

-- ---- how the inside of an element ends

skip_one_stays : (w v : Window) → Grows w v → Keeps Grows (skip_one w) (skip_one v)
unfolding skip_one
skip_one_stays w v g = and_then (tag_stays w v g) (λ t s e. and_then (open_stays w v g) (λ o p b. and_then (octets_stays o.0 p.0 b.0) (λ x y f. kept o.1 p.1 b.1)))

skip_from_stays : (n : ℕ) → StaysInside (skip_from n)
unfolding skip_from
skip_from_stays zero w v g = kept tt tt refl
skip_from_stays (suc n) w v g = rw g.1 (choose (w.left == 0) (kept tt tt refl) (and_then (skip_one_stays w (with_more g.0 w) (g.0, refl)) (λ x y e. skip_from_stays n x y e)))

pub skip_stays : StaysInside skip
skip_stays w v g = rw g.1 (skip_from_stays w.left w (with_more g.0 w) (g.0, refl))

pub ended_stays : StaysInside ended
unfolding ended
ended_stays w v g = rw g.1 (choose (w.left == 0) (kept tt tt refl) (and_then (tag_stays w (with_more g.0 w) (g.0, refl)) (λ t s e. at_fault w.at why.Shape)))

many_from_stays : {A : Type 0} (piece : Window → Reading A) → Stays piece → (n : ℕ) → StaysInside (many_from piece n)
unfolding many_from
many_from_stays piece h zero w v g = kept [] [] refl
many_from_stays {A} piece h (suc n) w v g =
    rw g.1 (choose (w.left == 0) (kept [] [] refl) (and_then (h w (with_more g.0 w) (g.0, refl)) (λ x y e. and_then (many_from_stays piece h n x.1 y.1 e.1) (λ xs ys f. kept (x.0 ∷ xs) (y.0 ∷ ys) (let a = e.0 in cc)))))

pub many_stays : {A : Type 0} (piece : Window → Reading A) → Stays piece → StaysInside (many piece)
many_stays piece h w v g = rw g.1 (many_from_stays piece h w.left w (with_more g.0 w) (g.0, refl))

abbrev nothing : {A : Type 0} → Option A
nothing = None

pub optional_stays : {A : Type 0} (tag : ℕ) (content : Window → Result A Stop) → StaysInside content → Stays (optional tag content)
unfolding optional
optional_stays tag content h w v g =
    rw g.1 (choose (w.left == 0) (kept (nothing, w) (nothing, with_more g.0 w) (refl, (g.0, refl))) (and_then (tag_stays w (with_more g.0 w) (g.0, refl)) (λ t s e. rw (sym e) (choose (t == tag)
    (and_then (element_stays tag content h w (with_more g.0 w) (g.0, refl)) (λ x y f. kept (Some x.0, x.1) (Some y.0, y.1) (ap (λ a. Some a) f.0, f.1)))
    (kept (nothing, w) (nothing, with_more g.0 w) (refl, (g.0, refl)))))))

first_stays : {A : Type 0} (others : Window → Reading (List A)) → Stays others → (p q : Option A × Window) → Same p q → Keeps Same (with_first others p) (with_first others q)
first_stays others h (None, w) (o, v) e = (let a : o ≡ None = sym e.0 in rw a (kept ([], w) ([], v) (refl, e.1)))
first_stays others h (Some x, w) (o, v) e = (let a : o ≡ Some x = sym e.0 in rw a (and_then (h w v e.1) (λ xs ys f. kept (x ∷ xs.0, xs.1) (x ∷ ys.0, ys.1) (ap (λ (zs : List _). x ∷ zs) f.0, f.1))))

run_from_stays : {A : Type 0} (tag : ℕ) (content : Window → Result A Stop) → StaysInside content → (n : ℕ) → Stays (run_from tag content n)
unfolding run_from
run_from_stays tag content h zero w v g = kept ([], w) ([], v) (refl, g)
run_from_stays tag content h (suc n) w v g = and_then (optional_stays tag content h w v g) (λ p q e. first_stays (run_from tag content n) (run_from_stays tag content h n) p q e)

pub run_stays : {A : Type 0} (tag : ℕ) (content : Window → Result A Stop) → StaysInside content → Stays (run tag content)
run_stays tag content h w v g = rw g.1 (run_from_stays tag content h w.left w (with_more g.0 w) (g.0, refl))
