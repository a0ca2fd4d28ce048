-- What reading a header and an element says of the bytes.
use Rattle.std.proofs.Common.{◌≡◌, ℕ, zero, suc, ◌-◌, ◌+◌, ◌<◌, ◌≤◌, ◌%◌, ◌==◌, Bool, true, false, cond, ltb, List, [], ◌∷◌, ◌++◌, length, take, drop, get_or, Result, Ok, Err, refl, sym, ap, subst, ◌∙◌, append_assoc, arith, length-append, inl, inr, ◌≢◌, length-drop}
use Rattle.std.specs.Prelude.{slice_range}
use Rattle.std.proofs.lemmas.Bool.{cases_lt, ltb-false, ltb-true, le-ltb}
use Rattle.std.proofs.lemmas.Bool.Decides.{nat_tests}
use Rattle.std.proofs.lemmas.List.{length-take, length-take-le, take_all, take_at, drop_at, take-take, drop-take, take-append-drop, append-nil}
use Rattle.ber_core.specs.declared.fault.BerFault.{BerFault}
use Rattle.ber_core.specs.declared.fault.BerFault.TheVariants.{More, Bad}
use Rattle.ber_core.specs.declared.fault.BerWhy.{BerWhy}
use Rattle.ber_core.specs.declared.fault.BerWhy.TheVariants.{LongTag, Indefinite, LengthForm, TooLarge}
use Rattle.ber_core.specs.declared.read.Header.{Header}
use Rattle.ber_core.specs.Number.{IsBytes, number, least_number}
use Rattle.ber_core.specs.Element.{IsTag, IsLength, IsHeader, IsElement, IsElementWithin}
use Rattle.ber_core.specs.Reading.{BeginsNone, IsMissing, HasNoHeader, form_of, digit_count, header_size, content_size, least_size, header_of, header_within, if_fine, header_at, Parts, parts_after, with_content, element_at}
use Rattle.ber_core.proofs.Digits.{zeros, length_zeros, IsBytes-zeros_append, least_number_grows, least_number-zeros}

-- ---- headers and elements

pub element_from_header : (front body : List ℕ) (tag : ℕ) → IsHeader front tag (length body) → IsElement (front ++ body) tag body
element_from_header front body tag h = record { len = h.len; parts = ap (λ (xs : List ℕ). xs ++ body) h.parts; tag_form = h.tag_form; length_form = h.length_form }

pub header_from_element : (whole body : List ℕ) (tag : ℕ) → IsElement whole tag body → (front : List ℕ) × IsHeader front tag (length body) × (whole ≡ front ++ body)
header_from_element whole body tag e = (tag ∷ e.len, record { len = e.len; parts = refl; tag_form = e.tag_form; length_form = e.length_form }, e.parts)

-- ---- bytes that have the form of a header

pub cond_is_true : (a b x y : ℕ) → a < b → cond (ltb a b) x y ≡ x
cond_is_true a b x y lt = grind (arith, nat_tests)

pub cond_is_false : (a b x y : ℕ) → b ≤ a → cond (ltb a b) x y ≡ y
cond_is_false a b x y le = grind (arith, nat_tests)

form_says : (tag b : ℕ) (digits : List ℕ) → form_of (tag ∷ b ∷ digits) ≡ Ok tt → IsTag tag × (b ≢ 128) × (b < 137)
form_says tag b digits e = grind (arith, nat_tests)

form_fine : (tag b : ℕ) (digits : List ℕ) → IsTag tag → b ≢ 128 → b < 137 → form_of (tag ∷ b ∷ digits) ≡ Ok tt
form_fine tag b digits t x y = grind (arith, nat_tests)

least_number-all : (n : ℕ) (digits : List ℕ) → length digits ≡ n → least_number n digits ≡ number digits
unfolding least_number
least_number-all n digits len = let none : n - length digits ≡ 0 = omega arith in ap (λ (k : ℕ). number (digits ++ zeros k)) none ∙ ap number (append-nil digits)

header_front : (bytes : List ℕ) → form_of bytes ≡ Ok tt → header_size bytes ≤ length bytes → IsHeader (take (header_size bytes) bytes) (get_or bytes 0 0) (content_size bytes)
header_front [] fine le = absurd (omega arith)
header_front (tag ∷ []) fine le = absurd (omega arith)
header_front (tag ∷ b ∷ digits) fine le =
    let n = digit_count b in
    let f = form_says tag b digits fine in
    let len : length (take n digits) ≡ n = length-take-le n digits (omega arith) in
    let cut : 2 + n ≡ suc (suc n) = omega arith in
    let form : IsLength (b ∷ take n digits) (content_size (tag ∷ b ∷ digits)) =
    elim (cases_lt b 128) [
      | inl lt ↦ inl (record { first = lt; alone = (let none : n ≡ 0 = omega arith in rw none refl); value = cond_is_true b 128 b _ lt })
      | inr le ↦ inr (record { some = omega (arith, f.1); up_to_eight = omega (arith, f.2); first = omega arith; value = cond_is_false b 128 b _ le ∙ least_number-all n (take n digits) len })
    ] in
    record { len = b ∷ take n digits; parts = rw cut refl; tag_form = f.0; length_form = form }

pub element_front : (bytes : List ℕ) → form_of bytes ≡ Ok tt → least_size bytes ≤ length bytes
    → IsElement (take (least_size bytes) bytes) (get_or bytes 0 0) (slice_range bytes (header_size bytes) (least_size bytes))
element_front bytes fine le =
    let n = header_size bytes in
    let k = content_size bytes in
    let count : least_size bytes - n ≡ k = omega arith in
    let front : IsHeader (take n bytes) (get_or bytes 0 0) k = header_front bytes fine (omega arith) in
    let len : length (take k (drop n bytes)) ≡ k = omega (arith, length-take k (drop n bytes), length-drop n bytes) in
    let both : take n bytes ++ take k (drop n bytes) ≡ take (n + k) bytes =
    ap (λ (xs : List ℕ). xs ++ take k (drop n bytes)) (sym (take-take n (n + k) bytes (omega arith))) ∙ ap (λ (xs : List ℕ). take n (take (n + k) bytes) ++ xs) (sym (drop-take n k bytes)) ∙ take-append-drop n (take (n + k) bytes) in
    let whole : IsElement (take n bytes ++ take k (drop n bytes)) (get_or bytes 0 0) (take k (drop n bytes)) =
    element_from_header (take n bytes) (take k (drop n bytes)) (get_or bytes 0 0) (subst (λ (m : ℕ). IsHeader (take n bytes) (get_or bytes 0 0) m) (sym len) front) in
    rw count (subst (λ (xs : List ℕ). IsElement xs (get_or bytes 0 0) (take k (drop n bytes))) both whole)

-- what bytes that begin with a header have
pub record Begins (bytes : List ℕ) (h : Header) : Type 0 where
  pub fine : form_of bytes ≡ Ok tt
  pub header_is : header_of bytes ≡ h

begins_with : (tag b content : ℕ) (digits rest : List ℕ) → IsTag tag → IsLength (b ∷ digits) content
    → Begins (tag ∷ b ∷ (digits ++ rest)) (record { tag = tag; size = 2 + length digits; content = content })
begins_with tag b content digits rest t (inl short) =
    let first = short.first in
    let count : digit_count b ≡ length digits = rw short.alone (omega arith) in
    let is : content_size (tag ∷ b ∷ (digits ++ rest)) ≡ content = cond_is_true b 128 b _ first ∙ sym short.value in
    record { fine = form_fine tag b (digits ++ rest) t (λ e. absurd (omega arith)) (omega arith); header_is = rw (is, count) refl }
begins_with tag b content digits rest t (inr long) =
    let some = long.some in
    let most = long.up_to_eight in
    let first = long.first in
    let count : digit_count b ≡ length digits = omega arith in
    let digits_are : least_number (digit_count b) (take (digit_count b) (digits ++ rest)) ≡ number digits =
    rw (count, take_at digits rest (length digits) refl) (least_number-all (length digits) digits refl) in
    let is : content_size (tag ∷ b ∷ (digits ++ rest)) ≡ content = cond_is_false b 128 b _ (omega arith) ∙ digits_are ∙ sym long.value in
    record { fine = form_fine tag b (digits ++ rest) t (λ e. absurd (omega arith)) (omega arith); header_is = rw (is, count) refl }

-- a header is seen again, whatever follows it
pub begins_again : (front rest : List ℕ) (tag content : ℕ) → IsHeader front tag content → Begins (front ++ rest) (record { tag = tag; size = length front; content = content })
begins_again front rest tag content h =
    subst (λ (xs : List ℕ). Begins (xs ++ rest) (record { tag = tag; size = length xs; content = content })) (sym h.parts) (by_len h.len h.length_form)
  where
    by_len : (len : List ℕ) → IsLength len content → Begins ((tag ∷ len) ++ rest) (record { tag = tag; size = length (tag ∷ len); content = content })
    by_len [] form = absurd form
    by_len (b ∷ digits) form =
        let size : 2 + length digits ≡ length (tag ∷ b ∷ digits) = omega arith in
        subst (λ (n : ℕ). Begins (tag ∷ b ∷ (digits ++ rest)) (record { tag = tag; size = n; content = content })) size (begins_with tag b content digits rest h.tag_form form)

-- ---- bytes that go on

-- the fewest bytes of an element never fall as bytes come
least_size_grows : (bytes more : List ℕ) → 2 ≤ least_size (bytes ++ more) → least_size bytes ≤ least_size (bytes ++ more)
least_size_grows [] more two = two
least_size_grows (tag ∷ []) more two = two
least_size_grows (tag ∷ b ∷ digits) more two =
    elim (cases_lt b 128) [
      | inl lt ↦ rw (cond_is_true b 128 b (least_number (digit_count b) (take (digit_count b) digits)) lt, cond_is_true b 128 b (least_number (digit_count b) (take (digit_count b) (digits ++ more))) lt) (omega arith)
      | inr le ↦ rw (cond_is_false b 128 b (least_number (digit_count b) (take (digit_count b) digits)) le, cond_is_false b 128 b (least_number (digit_count b) (take (digit_count b) (digits ++ more))) le) (omega (arith, least_number_grows (digit_count b) digits more))
    ]

form_begins : (bytes more : List ℕ) → form_of (bytes ++ more) ≡ Ok tt → form_of bytes ≡ Ok tt
form_begins [] more e = refl
form_begins (tag ∷ []) [] e = e
form_begins (tag ∷ []) (b ∷ more) e = grind (arith, nat_tests)
form_begins (tag ∷ b ∷ digits) more e = e

-- some element within the limit may begin so
pub record MayBegin (limit : ℕ) (bytes : List ℕ) : Type 0 where
  pub two : 2 ≤ limit
  pub fine : form_of bytes ≡ Ok tt
  pub small : least_size bytes ≤ limit

least_size_is : (bytes : List ℕ) (h : Header) → header_of bytes ≡ h → least_size bytes ≡ h.size + h.content
least_size_is bytes h e = ap (λ (x : Header). x.size + x.content) e

header_length : (front : List ℕ) (tag content : ℕ) → IsHeader front tag content → 2 ≤ length front
header_length front tag content h = subst (λ (xs : List ℕ). 2 ≤ length xs) (sym h.parts) (by_len h.len h.length_form)
  where
    by_len : (len : List ℕ) → IsLength len content → 2 ≤ length (tag ∷ len)
    by_len [] form = absurd form
    by_len (b ∷ digits) form = omega arith

-- what bytes say that begin an element
begun : (bytes more whole rest : List ℕ) (tag : ℕ) (body : List ℕ) → IsElement whole tag body → bytes ++ more ≡ whole ++ rest
    → (form_of bytes ≡ Ok tt) × (2 ≤ length whole) × (least_size bytes ≤ length whole)
begun bytes more whole rest tag body h e =
    let k = header_from_element whole body tag h in
    let front = k.0 in
    let all : bytes ++ more ≡ front ++ (body ++ rest) = e ∙ ap (λ (xs : List ℕ). xs ++ rest) k.2 ∙ append_assoc front body rest in
    let s = begins_again front (body ++ rest) tag (length body) k.1 in
    let fine : form_of (bytes ++ more) ≡ Ok tt = rw all s.fine in
    let size : least_size (bytes ++ more) ≡ length front + length body = ap least_size all ∙ least_size_is (front ++ (body ++ rest)) _ s.header_is in
    let two = header_length front tag (length body) k.1 in
    let len : length whole ≡ length front + length body = ap (λ (xs : List ℕ). length xs) k.2 ∙ length-append front body in
    (form_begins bytes more fine, omega arith, omega (arith, least_size_grows bytes more (omega arith)))

pub may_begin : (limit : ℕ) (bytes more whole rest : List ℕ) → IsElementWithin limit whole → bytes ++ more ≡ whole ++ rest → MayBegin limit bytes
may_begin limit bytes more whole rest within e =
    let b = begun bytes more whole rest within.0 within.1 within.2 e in
    record { two = omega (arith, b.1, within.3); fine = b.0; small = omega (arith, b.2, within.3) }

-- zeros that come make an element
zeros_enough : (bytes : List ℕ) (m : ℕ) → form_of bytes ≡ Ok tt → least_size bytes ≤ length bytes + m → (form_of (bytes ++ zeros m) ≡ Ok tt) × (least_size (bytes ++ zeros m) ≡ least_size bytes)
zeros_enough [] zero fine le = absurd (omega arith)
zeros_enough [] (suc zero) fine le = absurd (omega arith)
zeros_enough [] (suc (suc m)) fine le = (refl, refl)
zeros_enough (tag ∷ []) zero fine le = absurd (omega arith)
zeros_enough (tag ∷ []) (suc m) fine le = (again (tag % 32 == 31) fine, refl)
  where
    again : (a : Bool) → cond a (let bad : Result (Unit {0}) BerFault = Err (Bad 0 LongTag) in bad) (Ok tt) ≡ Ok tt → cond a (let bad : Result (Unit {0}) BerFault = Err (Bad 0 LongTag) in bad) (Ok tt) ≡ Ok tt
    again a e = e
zeros_enough (tag ∷ b ∷ digits) m fine le =
    let n = digit_count b in
    let few : n - length digits ≤ m = omega arith in
    (fine, ap (λ (k : ℕ). (2 + n) + cond (ltb b 128) b k) (least_number-zeros n m digits few))

pub missing : (limit : ℕ) (bytes : List ℕ) → MayBegin limit bytes → length bytes < least_size bytes → IsMissing limit bytes (least_size bytes - length bytes)
missing limit bytes k short =
    let need = least_size bytes - length bytes in
    let all : List ℕ = bytes ++ zeros need in
    let z = zeros_enough bytes need k.fine (omega arith) in
    let len : length all ≡ least_size bytes = omega (arith, length-append bytes (zeros need), length_zeros need) in
    let e = element_front all z.0 (omega (arith, z.1)) in
    let taken : take (least_size all) all ≡ all = take_all (least_size all) all (omega (arith, z.1)) in
    let body : List ℕ = slice_range all (header_size all) (least_size all) in
    let whole : IsElement all (get_or all 0 0) body = subst (λ (xs : List ℕ). IsElement xs (get_or all 0 0) body) taken e in
    let small = k.small in
    let none : IsBytes [] = λ i. omega arith in
    let bytes_of : IsBytes (zeros need) = subst IsBytes (append-nil (zeros need)) (IsBytes-zeros_append need [] none) in
    record {
      some_missing = omega arith;
      enough = (zeros need, bytes_of, length_zeros need, (get_or all 0 0, body, whole, omega arith));
      least = λ rest within.
          let b = begun bytes rest (bytes ++ rest) [] within.0 within.1 within.2 (sym (append-nil (bytes ++ rest))) in
          omega (arith, b.2, length-append bytes rest);
    }

-- ---- which way the tests went

found_cases : (a b : Bool) (n : ℕ) (x y : Header) → cond a (Err (Bad 0 TooLarge)) (cond b (Err (More n)) (Ok x)) ≡ Ok y → (a ≡ false) × (b ≡ false) × (x ≡ y)
found_cases true b n x y e = absurd cc
found_cases false true n x y e = absurd cc
found_cases false false n x y e = (refl, refl, cc)

more_cases : (a b : Bool) (n m : ℕ) (x : Header) → cond a (Err (Bad 0 TooLarge)) (cond b (Err (More n)) (Ok x)) ≡ Err (More m) → (a ≡ false) × (b ≡ true) × (n ≡ m)
more_cases true b n m x e = absurd cc
more_cases false true n m x e = (refl, refl, cc)
more_cases false false n m x e = absurd cc

bad_cases : (a b : Bool) (n place : ℕ) (why : BerWhy) (x : Header) → cond a (Err (Bad 0 TooLarge)) (cond b (Err (More n)) (Ok x)) ≡ Err (Bad place why) → a ≡ true
bad_cases true b n place why x e = refl
bad_cases false true n place why x e = absurd cc
bad_cases false false n place why x e = absurd cc

fine_found : (a : Bool) (r : Result (Unit {0}) BerFault) (read : Result Header BerFault) (h : Header) → cond a (Err (Bad 0 TooLarge)) (if_fine r read) ≡ Ok h → (a ≡ false) × (r ≡ Ok tt) × (read ≡ Ok h)
fine_found true r read h e = absurd cc
fine_found false (Ok u) read h e = (refl, refl, e)
fine_found false (Err f) read h e = absurd cc

fine_more : (a : Bool) (r : Result (Unit {0}) BerFault) (read : Result Header BerFault) (m : ℕ) → (r ≡ Err (More m) → ⊥) → cond a (Err (Bad 0 TooLarge)) (if_fine r read) ≡ Err (More m) → (a ≡ false) × (r ≡ Ok tt) × (read ≡ Err (More m))
fine_more true r read m never e = absurd cc
fine_more false (Ok u) read m never e = (refl, refl, e)
fine_more false (Err f) read m never e = absurd (never cc)

abbrev fine : Result (Unit {0}) BerFault
fine = Ok tt

abbrev refused : BerFault → Result (Unit {0}) BerFault
refused f = Err f

one_test : (a : Bool) (need : ℕ) → cond a (refused (Bad 0 LongTag)) fine ≡ refused (More need) → ⊥
one_test true need e = cc
one_test false need e = cc

three_tests : (a b c : Bool) (need : ℕ) → cond a (refused (Bad 0 LongTag)) (cond b (refused (Bad 1 Indefinite)) (cond c (refused (Bad 1 LengthForm)) fine)) ≡ refused (More need) → ⊥
three_tests true b c need e = cc
three_tests false true c need e = cc
three_tests false false true need e = cc
three_tests false false false need e = cc

form_not_more : (bytes : List ℕ) (need : ℕ) → form_of bytes ≡ Err (More need) → ⊥
form_not_more [] need e = cc
form_not_more (tag ∷ []) need e = one_test (tag % 32 == 31) need e
form_not_more (tag ∷ b ∷ digits) need e = three_tests (tag % 32 == 31) (b == 128) (ltb 136 b) need e

-- ---- the header

-- a header that was read
pub record HasHeader (limit : ℕ) (bytes : List ℕ) (h : Header) : Type 0 where
  pub begins : MayBegin limit bytes
  pub there : header_size bytes ≤ length bytes
  pub header_is : header_of bytes ≡ h

pub header_takes : (limit : ℕ) (bytes : List ℕ) (h : Header) → header_at limit bytes ≡ Ok h → HasHeader limit bytes h
unfolding header_at header_within
header_takes limit bytes h e =
    let c = fine_found (ltb limit 2) (form_of bytes) (header_within limit bytes) h e in
    let d = found_cases (ltb limit (least_size bytes)) (ltb (length bytes) (header_size bytes)) (least_size bytes - length bytes) (header_of bytes) h c.2 in
    record { begins = record { two = ltb-false _ _ c.0; fine = c.1; small = ltb-false _ _ d.0 }; there = ltb-false _ _ d.1; header_is = d.2 }

header_more : (limit : ℕ) (bytes : List ℕ) (need : ℕ) → header_at limit bytes ≡ Err (More need) → MayBegin limit bytes × (length bytes < header_size bytes) × (least_size bytes - length bytes ≡ need)
unfolding header_at header_within
header_more limit bytes need e =
    let c = fine_more (ltb limit 2) (form_of bytes) (header_within limit bytes) need (form_not_more bytes need) e in
    let d = more_cases (ltb limit (least_size bytes)) (ltb (length bytes) (header_size bytes)) (least_size bytes - length bytes) need (header_of bytes) c.2 in
    (record { two = ltb-false _ _ c.0; fine = c.1; small = ltb-false _ _ d.0 }, ltb-true _ _ d.1, d.2)

header_reads : (limit : ℕ) (bytes : List ℕ) → MayBegin limit bytes → header_at limit bytes ≡ header_within limit bytes
unfolding header_at
header_reads limit bytes k = rw (le-ltb limit 2 k.two, k.fine) refl

header_not_bad : (limit : ℕ) (bytes : List ℕ) (place : ℕ) (why : BerWhy) → MayBegin limit bytes → header_at limit bytes ≡ Err (Bad place why) → ⊥
unfolding header_within
header_not_bad limit bytes place why k e =
    let small = k.small in
    let large : ltb limit (least_size bytes) ≡ true =
    bad_cases (ltb limit (least_size bytes)) (ltb (length bytes) (header_size bytes)) (least_size bytes - length bytes) place why (header_of bytes) (sym (header_reads limit bytes k) ∙ e) in
    let lt = ltb-true limit (least_size bytes) large in
    absurd (omega arith)

header_there : (limit : ℕ) (bytes : List ℕ) → MayBegin limit bytes → header_size bytes ≤ length bytes → header_at limit bytes ≡ Ok (header_of bytes)
unfolding header_within
header_there limit bytes k there =
    header_reads limit bytes k ∙ rw (le-ltb limit (least_size bytes) k.small, le-ltb (length bytes) (header_size bytes) there) refl

pub header_found : (limit : ℕ) (bytes : List ℕ) (h : Header) → header_at limit bytes ≡ Ok h → IsHeader (take h.size bytes) h.tag h.content
header_found limit bytes h e =
    let k = header_takes limit bytes h e in
    let b = k.begins in
    subst (λ (x : Header). IsHeader (take x.size bytes) x.tag x.content) k.header_is (header_front bytes b.fine k.there)

pub header_again : (limit : ℕ) (front rest : List ℕ) (tag content : ℕ) → IsHeader front tag content → length front + content ≤ limit
    → header_at limit (front ++ rest) ≡ Ok (record { tag = tag; size = length front; content = content })
header_again limit front rest tag content h le =
    let all : List ℕ = front ++ rest in
    let s = begins_again front rest tag content h in
    let size : header_size all ≡ length front = ap (λ (x : Header). x.size) s.header_is in
    let least = least_size_is all _ s.header_is in
    let two = header_length front tag content h in
    let k : MayBegin limit all = record { two = omega arith; fine = s.fine; small = omega arith } in
    header_there limit all k (omega (arith, length-append front rest)) ∙ ap Ok s.header_is

pub header_missing : (limit : ℕ) (bytes : List ℕ) (need : ℕ) → header_at limit bytes ≡ Err (More need) → IsMissing limit bytes need
header_missing limit bytes need e =
    let k = header_more limit bytes need e in
    let short = k.1 in
    subst (IsMissing limit bytes) k.2 (missing limit bytes k.0 (omega arith))

pub header_not_there : (limit : ℕ) (bytes : List ℕ) (need : ℕ) → header_at limit bytes ≡ Err (More need) → HasNoHeader bytes
header_not_there limit bytes need e front rest tag content h is =
    let k = header_more limit bytes need e in
    let short = k.1 in
    let s = begins_again front rest tag content h in
    let size : header_size bytes ≡ length front = ap header_size is ∙ ap (λ (x : Header). x.size) s.header_is in
    absurd (omega (arith, ap (λ (xs : List ℕ). length xs) is, length-append front rest))

pub header_bad : (limit : ℕ) (bytes : List ℕ) (place : ℕ) (why : BerWhy) → header_at limit bytes ≡ Err (Bad place why) → BeginsNone limit bytes
header_bad limit bytes place why e more whole rest within begins = header_not_bad limit bytes place why (may_begin limit bytes more whole rest within begins) e

-- the element behind a header, once all of it is there
pub header_element : (limit : ℕ) (bytes : List ℕ) (h : Header) → header_at limit bytes ≡ Ok h → h.size + h.content ≤ length bytes
    → IsElement (take (h.size + h.content) bytes) h.tag (slice_range bytes h.size (h.size + h.content))
header_element limit bytes h e le =
    let k = header_takes limit bytes h e in
    let b = k.begins in
    let least = least_size_is bytes h k.header_is in
    subst (λ (x : Header). IsElement (take (x.size + x.content) bytes) x.tag (slice_range bytes x.size (x.size + x.content))) k.header_is (element_front bytes b.fine (omega arith))

-- ---- the element

content_found : (b : Bool) (n : ℕ) (x y : Parts) → cond b (Err (More n)) (Ok x) ≡ Ok y → (b ≡ false) × (x ≡ y)
content_found true n x y e = absurd cc
content_found false n x y e = (refl, cc)

content_more : (b : Bool) (n m : ℕ) (x : Parts) → cond b (Err (More n)) (Ok x) ≡ Err (More m) → (b ≡ true) × (n ≡ m)
content_more true n m x e = (refl, cc)
content_more false n m x e = absurd cc

content_bad : (b : Bool) (n place : ℕ) (why : BerWhy) (x : Parts) → cond b (Err (More n)) (Ok x) ≡ Err (Bad place why) → ⊥
content_bad true n place why x e = cc
content_bad false n place why x e = cc

-- an element that was read
pub record Takes (limit : ℕ) (bytes : List ℕ) (p : Parts) : Type 0 where
  pub whole : IsElement (take p.size bytes) p.tag p.body
  pub within : p.size ≤ limit
  pub there : p.size ≤ length bytes

by_header : (limit : ℕ) (bytes : List ℕ) (p : Parts) (r : Result Header BerFault) → header_at limit bytes ≡ r → with_content bytes r ≡ Ok p → Takes limit bytes p
by_header limit bytes p (Ok h) is e =
    let c = content_found (ltb (length bytes) (h.size + h.content)) (h.size + h.content - length bytes) (parts_after bytes h) p e in
    let there = ltb-false (length bytes) (h.size + h.content) c.0 in
    let k = header_takes limit bytes h is in
    let b = k.begins in
    let small = b.small in
    let least = least_size_is bytes h k.header_is in
    subst (λ (q : Parts). Takes limit bytes q) c.1 (record { whole = header_element limit bytes h is there; within = omega arith; there = there })
by_header limit bytes p (Err f) is e = absurd cc

pub element_takes : (limit : ℕ) (bytes : List ℕ) (p : Parts) → element_at limit bytes ≡ Ok p → Takes limit bytes p
unfolding element_at
element_takes limit bytes p e = by_header limit bytes p (header_at limit bytes) refl e

-- an element is read again, whatever follows it
pub element_again : (limit : ℕ) (whole : List ℕ) (tag : ℕ) (body rest : List ℕ) → IsElement whole tag body → length whole ≤ limit
    → element_at limit (whole ++ rest) ≡ Ok (record { tag = tag; body = body; size = length whole })
unfolding element_at
element_again limit whole tag body rest h le =
    let k = header_from_element whole body tag h in
    let front = k.0 in
    let all : whole ++ rest ≡ front ++ (body ++ rest) = ap (λ (xs : List ℕ). xs ++ rest) k.2 ∙ append_assoc front body rest in
    let len : length whole ≡ length front + length body = ap (λ (xs : List ℕ). length xs) k.2 ∙ length-append front body in
    let read = header_again limit front (body ++ rest) tag (length body) k.1 (omega arith) in
    let there : ltb (length (front ++ (body ++ rest))) (length front + length body) ≡ false =
    le-ltb (length (front ++ (body ++ rest))) (length front + length body) (omega (arith, length-append front (body ++ rest), length-append body rest)) in
    let count : length front + length body - length front ≡ length body = omega arith in
    let inside : slice_range (front ++ (body ++ rest)) (length front) (length front + length body) ≡ body =
    rw (count, drop_at front (body ++ rest) (length front) refl) (take_at body rest (length body) refl) in
    rw (all, read, there, inside, len) refl

more_by_header : (limit : ℕ) (bytes : List ℕ) (need : ℕ) (r : Result Header BerFault) → header_at limit bytes ≡ r → with_content bytes r ≡ Err (More need) → IsMissing limit bytes need
more_by_header limit bytes need (Ok h) is e =
    let c = content_more (ltb (length bytes) (h.size + h.content)) (h.size + h.content - length bytes) need (parts_after bytes h) e in
    let short = ltb-true (length bytes) (h.size + h.content) c.0 in
    let k = header_takes limit bytes h is in
    let least = least_size_is bytes h k.header_is in
    subst (IsMissing limit bytes) (ap (λ (n : ℕ). n - length bytes) least ∙ c.1) (missing limit bytes k.begins (omega arith))
more_by_header limit bytes need (Err f) is e = header_missing limit bytes need (is ∙ cc)

pub element_missing : (limit : ℕ) (bytes : List ℕ) (need : ℕ) → element_at limit bytes ≡ Err (More need) → IsMissing limit bytes need
unfolding element_at
element_missing limit bytes need e = more_by_header limit bytes need (header_at limit bytes) refl e

bad_by_header : (limit : ℕ) (bytes : List ℕ) (place : ℕ) (why : BerWhy) (r : Result Header BerFault) → header_at limit bytes ≡ r → with_content bytes r ≡ Err (Bad place why) → BeginsNone limit bytes
bad_by_header limit bytes place why (Ok h) is e =
    absurd (content_bad (ltb (length bytes) (h.size + h.content)) (h.size + h.content - length bytes) place why (parts_after bytes h) e)
bad_by_header limit bytes place why (Err f) is e = header_bad limit bytes place why (is ∙ cc)

pub element_bad : (limit : ℕ) (bytes : List ℕ) (place : ℕ) (why : BerWhy) → element_at limit bytes ≡ Err (Bad place why) → BeginsNone limit bytes
unfolding element_at
element_bad limit bytes place why e = bad_by_header limit bytes place why (header_at limit bytes) refl e
