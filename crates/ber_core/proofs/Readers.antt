-- What a reader has told that gives `header_at` or `element_at`.
use Rattle.std.proofs.Common.{◌≡◌, ℕ, ◌+◌, ◌≤◌, List, [], ◌∷◌, ◌++◌, length, take, drop, Result, Ok, Err, refl, sym, ap, subst, ◌∙◌, append_assoc, arith, length-append}
use Rattle.std.specs.Prelude.{IfOk, IsOkAnd, MatchResult, ◌↔◌}
use Rattle.std.proofs.lemmas.List.{length-take-le, take-append-drop, take_at, append-nil}
use Rattle.ber_core.specs.declared.fault.BerFault.{BerFault}
use Rattle.ber_core.specs.declared.fault.BerFault.TheVariants.{More, Bad}
use Rattle.ber_core.specs.declared.fault.BerWhy.{BerWhy}
use Rattle.ber_core.specs.declared.read.Header.{Header}
use Rattle.ber_core.specs.declared.read.Tlv.{Tlv}
use Rattle.ber_core.specs.Element.{IsLength, IsHeader, IsElement}
use Rattle.ber_core.specs.Reading.{IsMissing, BeginsNone, HasNoHeader, Parts, header_at, element_at, parts}
use Rattle.ber_core.proofs.Laws.{header_found, header_again, header_missing, header_not_there, header_bad, element_takes, element_again, element_missing, element_bad}

-- ---- one element at most

pub same_element : (one two rest others : List ℕ) (tag kind : ℕ) (body content : List ℕ) → IsElement one tag body → IsElement two kind content → one ++ rest ≡ two ++ others
    → (one ≡ two) × (tag ≡ kind) × (body ≡ content)
same_element one two rest others tag kind body content e f is =
    let limit = length one + length two in
    let left : element_at limit (one ++ rest) ≡ Ok (record { tag = tag; body = body; size = length one }) = element_again limit one tag body rest e (omega arith) in
    let right : element_at limit (two ++ others) ≡ Ok (record { tag = kind; body = content; size = length two }) = element_again limit two kind content others f (omega arith) in
    let both : read (record { tag = tag; body = body; size = length one }) ≡ read (record { tag = kind; body = content; size = length two }) =
    sym left ∙ ap (element_at limit) is ∙ right in
    let same = out _ _ both in
    let size : length one ≡ length two = ap (λ (p : Parts). p.size) same in
    (sym (take_at one rest (length one) refl) ∙ ap (λ (xs : List ℕ). take (length one) xs) is ∙ take_at two others (length one) (sym size), ap (λ (p : Parts). p.tag) same, ap (λ (p : Parts). p.body) same)
  where
    read : Parts → Result Parts BerFault
    read p = Ok p

    out : (p q : Parts) → read p ≡ read q → p ≡ q
    out p q same = cc

-- ---- what is missing

pub missing_same : (limit : ℕ) (bytes : List ℕ) (m n : ℕ) → IsMissing limit bytes m → IsMissing limit bytes n → m ≡ n
missing_same limit bytes m n h k =
    let a = h.enough in
    let b = k.enough in
    let up = h.least b.0 b.3 in
    let down = k.least a.0 a.3 in
    omega (arith, a.2, b.2)

-- where an element is there, none is missing
not_missing : (limit need : ℕ) (bytes : List ℕ) (p : Parts) → element_at limit bytes ≡ Ok p → IsMissing limit bytes need → ⊥
not_missing limit need bytes p e h =
    let t = element_takes limit bytes p e in
    let more = h.enough in
    let all = bytes ++ more.0 in
    let whole = more.3 in
    let some = h.some_missing in
    let there = t.there in
    let apart : all ++ [] ≡ take p.size bytes ++ (drop p.size bytes ++ more.0) =
    append-nil all ∙ ap (λ (xs : List ℕ). xs ++ more.0) (sym (take-append-drop p.size bytes)) ∙ append_assoc (take p.size bytes) (drop p.size bytes) more.0 in
    let same = same_element all (take p.size bytes) [] (drop p.size bytes ++ more.0) whole.0 p.tag whole.1 p.body whole.2 t.whole apart in
    let size : length all ≡ p.size = ap (λ (xs : List ℕ). length xs) same.0 ∙ length-take-le p.size bytes there in
    absurd (omega (arith, length-append bytes more.0, more.2))

bad_or_missing : (limit : ℕ) (bytes : List ℕ) (need : ℕ) → BeginsNone limit bytes → IsMissing limit bytes need → ⊥
bad_or_missing limit bytes need none h =
    let more = h.enough in
    none more.0 (bytes ++ more.0) [] more.3 (sym (append-nil (bytes ++ more.0)))

-- ---- the element

abbrev pub GivesElement : ℕ → List ℕ → Result Tlv BerFault → Type 0
GivesElement limit bytes r = MatchResult r (λ t. element_at limit bytes ≡ Ok (parts t)) (λ e. element_at limit bytes ≡ Err e)

pub element-found : (limit : ℕ) (bytes : List ℕ) (r : Result Tlv BerFault) → GivesElement limit bytes r → IfOk r (λ t. IsElement (take t.size bytes) t.tag t.body.now)
element-found limit bytes (Ok t) e = let k = element_takes limit bytes (parts t) e in k.whole
element-found limit bytes (Err f) e = tt

body_size : (whole body : List ℕ) (tag : ℕ) → IsElement whole tag body → length body + 2 ≤ length whole
body_size whole body tag e = subst (λ (xs : List ℕ). length body + 2 ≤ length xs) (sym e.parts) (by_len e.len e.length_form)
  where
    by_len : (len : List ℕ) → IsLength len (length body) → length body + 2 ≤ length (tag ∷ len ++ body)
    by_len [] form = absurd form
    by_len (b ∷ digits) form = omega (arith, length-append digits body)

pub element-within : (limit : ℕ) (bytes : List ℕ) (r : Result Tlv BerFault) → GivesElement limit bytes r → IfOk r (λ t. (length t.body.now + 2 ≤ t.size) × (t.size ≤ length bytes) × (t.size ≤ limit))
element-within limit bytes (Ok t) e =
    let k = element_takes limit bytes (parts t) e in
    let there = k.there in
    let size = body_size (take t.size bytes) t.body.now t.tag k.whole in
    (omega (arith, length-take-le t.size bytes there), there, k.within)
element-within limit bytes (Err f) e = tt

pub element-only : (limit : ℕ) (bytes : List ℕ) (r : Result Tlv BerFault) → GivesElement limit bytes r → (whole rest body : List ℕ) (tag : ℕ) → IsElement whole tag body → length whole ≤ limit → bytes ≡ whole ++ rest
    → IsOkAnd r (λ t. parts t ≡ record { tag = tag; body = body; size = length whole })
element-only limit bytes (Ok t) e whole rest body tag h le is = let a = ap (element_at limit) is ∙ element_again limit whole tag body rest h le in cc
element-only limit bytes (Err f) e whole rest body tag h le is = let a = ap (element_at limit) is ∙ element_again limit whole tag body rest h le in absurd cc

pub element-bad : (limit : ℕ) (bytes : List ℕ) (r : Result Tlv BerFault) → GivesElement limit bytes r → (place : ℕ) (why : BerWhy) → r ≡ Err (Bad place why) → BeginsNone limit bytes
element-bad limit bytes (Ok t) e place why is = absurd cc
element-bad limit bytes (Err f) e place why is = element_bad limit bytes place why (let h : element_at limit bytes ≡ Err (Bad place why) = cc in h)

pub element-more : (limit : ℕ) (bytes : List ℕ) (r : Result Tlv BerFault) → GivesElement limit bytes r → (need : ℕ) → (r ≡ Err (More need)) ↔ IsMissing limit bytes need
element-more limit bytes r e need = (λ is. there r e is, λ h. so r e h)
  where
    there : (r : Result Tlv BerFault) → GivesElement limit bytes r → r ≡ Err (More need) → IsMissing limit bytes need
    there (Ok t) e is = absurd cc
    there (Err f) e is = element_missing limit bytes need (let h : element_at limit bytes ≡ Err (More need) = cc in h)

    so : (r : Result Tlv BerFault) → GivesElement limit bytes r → IsMissing limit bytes need → r ≡ Err (More need)
    so (Ok t) e h = absurd (not_missing limit need bytes (parts t) e h)
    so (Err (More n)) e h = ap (λ (k : ℕ). Err (More k)) (missing_same limit bytes n need (element_missing limit bytes n e) h)
    so (Err (Bad place why)) e h = absurd (bad_or_missing limit bytes need (element_bad limit bytes place why e) h)

-- ---- the header

pub header-found : (limit : ℕ) (bytes : List ℕ) (r : Result Header BerFault) → r ≡ header_at limit bytes → IfOk r (λ h. IsHeader (take h.size bytes) h.tag h.content)
header-found limit bytes (Ok h) e = header_found limit bytes h (sym e)
header-found limit bytes (Err f) e = tt

pub header-only : (limit : ℕ) (bytes : List ℕ) (r : Result Header BerFault) → r ≡ header_at limit bytes → (front rest : List ℕ) (tag content : ℕ) → IsHeader front tag content → length front + content ≤ limit → bytes ≡ front ++ rest
    → r ≡ Ok (record { tag = tag; size = length front; content = content })
header-only limit bytes r e front rest tag content h le is = e ∙ ap (header_at limit) is ∙ header_again limit front rest tag content h le

pub header-more : (limit : ℕ) (bytes : List ℕ) (r : Result Header BerFault) → r ≡ header_at limit bytes → (need : ℕ) → (r ≡ Err (More need)) ↔ (IsMissing limit bytes need × HasNoHeader bytes)
header-more limit bytes r e need = (λ is. (header_missing limit bytes need (sym e ∙ is), header_not_there limit bytes need (sym e ∙ is)), λ h. so r e h.0 h.1)
  where
    so : (r : Result Header BerFault) → r ≡ header_at limit bytes → IsMissing limit bytes need → HasNoHeader bytes → r ≡ Err (More need)
    so (Ok h) e missing none =
        absurd (none (take h.size bytes) (drop h.size bytes) h.tag h.content (header_found limit bytes h (sym e)) (sym (take-append-drop h.size bytes)))
    so (Err (More n)) e missing none = ap (λ (k : ℕ). Err (More k)) (missing_same limit bytes n need (header_missing limit bytes n (sym e)) missing)
    so (Err (Bad place why)) e missing none = absurd (bad_or_missing limit bytes need (header_bad limit bytes place why (sym e)) missing)

pub header-bad : (limit : ℕ) (bytes : List ℕ) (r : Result Header BerFault) → r ≡ header_at limit bytes → (place : ℕ) (why : BerWhy) → r ≡ Err (Bad place why) → BeginsNone limit bytes
header-bad limit bytes r e place why is = header_bad limit bytes place why (sym e ∙ is)
