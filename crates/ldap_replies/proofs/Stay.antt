-- What is answered stays, whatever bytes follow; More alone may become something else.
use Rattle.std.proofs.Common.{◌≡◌, ℕ, ◌-◌, ◌+◌, ◌≤◌, cond, List, [], ◌∷◌, ◌++◌, length, Option, Some, None, Result, Ok, Err, refl, sym, ap, ◌∙◌, arith, length-append}
use Rattle.std.specs.Prelude.{◌==◌}
use Rattle.std.proofs.lemmas.List.{append-nil}
use Rattle.repl_data.proofs.Loops.{empty_rest}
use Rattle.ldap_types.specs.declared.reply.Reply.{Reply}
use Rattle.ldap_types.specs.declared.reply.ReplyOp.TheVariants as op
use Rattle.ber_core.specs.declared.fault.BerWhy.TheVariants as ber_why
use Rattle.ber_core.specs.Number.{shortest_integer}
use Rattle.ber_core.specs.declared.fault.NotLdapWhy.{NotLdapWhy}
use Rattle.ber_core.specs.declared.fault.NotLdapWhy.TheVariants as why
use Rattle.ber_core.specs.Window.{Stop, More, Fault, Window, ◌>>=◌, refused, octets, many, in_range, ranged, outermost}
use Rattle.ber_core.proofs.Stable.{Keeps, kept, more_yet, at_fault, Grows, Equal, BothGrow, Stays, StaysInside, with_more, self, and_then, choose, tag_stays, open_as_stays, octets_stays, int_stays, ended_stays, many_stays}
use Rattle.ldap_replies.specs.Form.{reply_bytes, IsInRange}
use Rattle.ldap_replies.specs.Grammar.{header_bytes, open_exact, exact, exact_optional, exact_int, text, message_id, in_32_bits, result_code, ldap_result, result_inside, attribute_inside, attribute, entry_inside, extended_inside, is_reply_tag, op_inside, operation, reply_inside, reply_at}
use Rattle.ldap_replies.specs.Laws.{FrontWantsMore, NoneIsPrefix, StaysAtFault}
use Rattle.ber_core.proofs.Sound.{value}
use Rattle.ldap_replies.proofs.BackMessage.{reply_back}
use Rattle.ldap_replies.proofs.FoundMessage.{reply_found}

-- ---- elements

open_exact_stays : (tag : ℕ) (w v : Window) → Grows w v → Keeps BothGrow (open_exact tag w) (open_exact tag v)
unfolding open_exact
open_exact_stays tag w v g = rw g.1 (and_then (open_as_stays tag w (with_more g.0 w) (g.0, refl)) (λ o p b. form o p b))
  where
    form : (o p : Window × Window) → BothGrow o p → Keeps BothGrow (cond (o.0.at - w.at == header_bytes o.0.left) (Ok o) (refused w)) (cond (p.0.at - w.at == header_bytes p.0.left) (Ok p) (refused (with_more g.0 w)))
    form o p b =
        let grown : p.0 ≡ with_more b.0.0 o.0 = b.0.1 in
        let same : (p.0.at - w.at == header_bytes p.0.left) ≡ (o.0.at - w.at == header_bytes o.0.left) = ap (λ (x : Window). x.at - w.at == header_bytes x.left) grown in
        rw same (choose (o.0.at - w.at == header_bytes o.0.left) (kept o p b) (at_fault w.at why.Shape))

exact_stays : {A : Type 0} (tag : ℕ) (content : Window → Result A Stop) → StaysInside content → Stays (exact tag content)
unfolding exact
exact_stays tag content h w v g = and_then (open_exact_stays tag w v g) (λ o p b. and_then (h o.0 p.0 b.0) (λ x y e. kept (x, o.1) (y, p.1) (e, b.1)))

abbrev nothing : {A : Type 0} → Option A
nothing = None

exact_optional_stays : {A : Type 0} (tag : ℕ) (content : Window → Result A Stop) → StaysInside content → Stays (exact_optional tag content)
unfolding exact_optional
exact_optional_stays tag content h w v g =
    rw g.1 (choose (w.left == 0) (kept (nothing, w) (nothing, with_more g.0 w) (refl, (g.0, refl))) (and_then (tag_stays w (with_more g.0 w) (g.0, refl)) (λ t s e. rw (sym e) (choose (t == tag)
    (and_then (exact_stays tag content h w (with_more g.0 w) (g.0, refl)) (λ x y f. kept (Some x.0, x.1) (Some y.0, y.1) (ap (λ a. Some a) f.0, f.1)))
    (kept (nothing, w) (nothing, with_more g.0 w) (refl, (g.0, refl)))))))

-- ---- leaves

text_stays : Stays text
text_stays = exact_stays 0x04 octets octets_stays

exact_int_stays : StaysInside exact_int
unfolding exact_int
exact_int_stays w v g = rw g.1 (and_then (int_stays w (with_more g.0 w) (g.0, refl)) (λ z y e. rw (sym e) (choose (w.left == length (shortest_integer z)) (kept z z refl) (at_fault w.start why.Shape))))

message_id_stays : StaysInside message_id
unfolding message_id
message_id_stays w v g = rw g.1 (and_then (exact_int_stays w (with_more g.0 w) (g.0, refl)) (λ z y e. rw (sym e) (self (ranged why.Id w.start (in_range 0 z)))))

result_code_stays : StaysInside result_code
unfolding result_code
result_code_stays w v g = rw g.1 (and_then (exact_int_stays w (with_more g.0 w) (g.0, refl)) (λ z y e. rw (sym e) (self (ranged why.Shape w.start (in_32_bits z)))))

-- ---- parts

ldap_result_stays : Stays ldap_result
unfolding ldap_result
ldap_result_stays w v g =
    and_then (exact_stays 0x0a result_code result_code_stays w v g) (λ a b e. and_then (text_stays a.1 b.1 e.1) (λ c d f. and_then (text_stays c.1 d.1 f.1) (λ i j h.
    kept (record { code = record { number = a.0 }; matched = c.0; text = i.0 }, i.1) (record { code = record { number = b.0 }; matched = d.0; text = j.0 }, j.1) ((let p = e.0 in let q = f.0 in let r = h.0 in cc), h.1))))

result_inside_stays : StaysInside result_inside
unfolding result_inside
result_inside_stays w v g = and_then (ldap_result_stays w v g) (λ a b e. and_then (ended_stays a.1 b.1 e.1) (λ x y u. kept a.0 b.0 e.0))

attribute_inside_stays : StaysInside attribute_inside
unfolding attribute_inside
attribute_inside_stays w v g =
    and_then (text_stays w v g) (λ a b e. and_then (exact_stays 0x31 (many text) (many_stays text text_stays) a.1 b.1 e.1) (λ c d f. and_then (ended_stays c.1 d.1 f.1) (λ x y u.
    kept (record { name = a.0; vals = c.0 }) (record { name = b.0; vals = d.0 }) (let p = e.0 in let q = f.0 in cc))))

attribute_stays : Stays attribute
attribute_stays = exact_stays 0x30 attribute_inside attribute_inside_stays

entry_inside_stays : StaysInside entry_inside
unfolding entry_inside
entry_inside_stays w v g =
    and_then (text_stays w v g) (λ a b e. and_then (exact_stays 0x30 (many attribute) (many_stays attribute attribute_stays) a.1 b.1 e.1) (λ c d f. and_then (ended_stays c.1 d.1 f.1) (λ x y u.
    kept (op.Entry a.0 c.0) (op.Entry b.0 d.0) (let p = e.0 in let q = f.0 in cc))))

extended_inside_stays : StaysInside extended_inside
unfolding extended_inside
extended_inside_stays w v g =
    and_then (ldap_result_stays w v g) (λ a b e. and_then (exact_optional_stays 0x8a octets octets_stays a.1 b.1 e.1) (λ c d f. and_then (exact_optional_stays 0x8b octets octets_stays c.1 d.1 f.1) (λ i j h. and_then (ended_stays i.1 j.1 h.1) (λ x y u.
    kept (op.Extended a.0 c.0 i.0) (op.Extended b.0 d.0 j.0) (let p = e.0 in let q = f.0 in let r = h.0 in cc)))))

-- ---- the message

only : {A B : Type 0} {r s : Result A Stop} (f : A → B) → Keeps Equal r s → Keeps Equal (r >>= λ x. Ok (f x)) (s >>= λ x. Ok (f x))
only f k = and_then k (λ x y e. kept (f x) (f y) (ap f e))

op_stays : (tag : ℕ) → StaysInside (op_inside tag)
unfolding op_inside
op_stays tag w v g =
    choose (tag == 0x61) (only (λ r. op.Bind r) (result_inside_stays w v g))
    (choose (tag == 0x64) (entry_inside_stays w v g)
    (choose (tag == 0x65) (only (λ r. op.Done r) (result_inside_stays w v g))
    (choose (tag == 0x67) (only (λ r. op.Modify r) (result_inside_stays w v g))
    (choose (tag == 0x69) (only (λ r. op.Add r) (result_inside_stays w v g))
    (choose (tag == 0x6b) (only (λ r. op.Delete r) (result_inside_stays w v g))
    (choose (tag == 0x6d) (only (λ r. op.Rename r) (result_inside_stays w v g))
    (choose (tag == 0x6f) (only (λ r. op.Compare r) (result_inside_stays w v g))
    (extended_inside_stays w v g))))))))

operation_stays : Stays operation
unfolding operation
operation_stays w v g =
    rw g.1 (and_then (tag_stays w (with_more g.0 w) (g.0, refl)) (λ t s e. rw (sym e) (and_then (choose (is_reply_tag t) (open_exact_stays t w (with_more g.0 w) (g.0, refl)) (at_fault w.at why.Op)) (λ o p b. and_then (op_stays t o.0 p.0 b.0) (λ x y f. kept (x, o.1) (y, p.1) (f, b.1))))))

reply_inside_stays : StaysInside reply_inside
unfolding reply_inside
reply_inside_stays w v g =
    and_then (exact_stays 0x02 message_id message_id_stays w v g) (λ a b e. and_then (operation_stays a.1 b.1 e.1) (λ c d f. and_then (ended_stays c.1 d.1 f.1) (λ x y u.
    kept (record { id = a.0; op = c.0 }) (record { id = b.0; op = d.0 }) (let p = e.0 in let q = f.0 in cc))))

outermost_stays : {A : Type 0} {R : A → A → Type 0} {r s : Result A Stop} → Keeps R r s → Keeps R (outermost r) (outermost s)
outermost_stays (kept x y e) = kept x y e
outermost_stays (more_yet s) = more_yet _
outermost_stays (at_fault place (why.Ber ber_why.TooLarge)) = at_fault place why.TooLarge
outermost_stays (at_fault place (why.Ber ber_why.LongTag)) = at_fault place (why.Ber ber_why.LongTag)
outermost_stays (at_fault place (why.Ber ber_why.Indefinite)) = at_fault place (why.Ber ber_why.Indefinite)
outermost_stays (at_fault place (why.Ber ber_why.LengthForm)) = at_fault place (why.Ber ber_why.LengthForm)
outermost_stays (at_fault place why.Id) = at_fault place why.Id
outermost_stays (at_fault place why.Op) = at_fault place why.Op
outermost_stays (at_fault place why.Shape) = at_fault place why.Shape
outermost_stays (at_fault place why.TooLarge) = at_fault place why.TooLarge
outermost_stays (at_fault place why.Depth) = at_fault place why.Depth

at_of : (w v : Window) → Grows w v → w.at ≡ v.at
at_of w v g = rw g.1 refl

reply_stays : (limit : ℕ) (bytes more : List ℕ) → Keeps Equal (reply_at limit bytes) (reply_at limit (bytes ++ more))
unfolding reply_at
reply_stays limit bytes more =
    let w : Window = record { start = 0; at = 0; left = limit; bytes = bytes } in
    and_then (outermost_stays (open_exact_stays 0x30 w (with_more more w) (more, refl))) (λ o p b. and_then (reply_inside_stays o.0 p.0 b.0) (λ x y e.
    kept (x, o.1.at) (y, p.1.at) (let a = at_of o.1 p.1 b.1 in cc)))

-- ---- the laws

abbrev answer : Reply × ℕ → Result (Reply × ℕ) Stop
answer p = Ok p

fault_again : {r s : Result (Reply × ℕ) Stop} → Keeps Equal r s → (place : ℕ) (w : NotLdapWhy) → r ≡ Err (Fault place w) → s ≡ Err (Fault place w)
fault_again (kept x y e) place w is = absurd cc
fault_again (more_yet s) place w is = absurd cc
fault_again (at_fault p u) place w is = is

value_again : {r s : Result (Reply × ℕ) Stop} → Keeps Equal r s → (x : Reply × ℕ) → r ≡ Ok x → s ≡ Ok x
value_again (kept y z e) x is = ap (λ (q : Reply × ℕ). answer q) (sym e) ∙ is
value_again (more_yet s) x is = absurd cc
value_again (at_fault p u) x is = absurd cc

pub fault_once : StaysAtFault
fault_once limit place bytes more w is = fault_again (reply_stays limit bytes more) place w is

out : (x y : Reply × ℕ) → answer x ≡ answer y → x ≡ y
out x y e = cc

pub none_is_prefix : NoneIsPrefix
none_is_prefix r s more i j e =
    let same = out (r, length (reply_bytes r)) (s, length (reply_bytes s)) (sym (reply_back r more i) ∙ ap (reply_at 2097152) (e ∙ sym (append-nil (reply_bytes s))) ∙ reply_back s [] j) in
    let size : length (reply_bytes r) ≡ length (reply_bytes s) = ap (λ (p : Reply × ℕ). p.1) same in
    (empty_rest (reply_bytes r) more (size ∙ ap (λ (bytes : List ℕ). length bytes) (sym e)), ap (λ (p : Reply × ℕ). p.0) same)

not_at_front : (r : Reply) (front rest : List ℕ) (a : Result (Reply × ℕ) Stop) → IsInRange r → reply_bytes r ≡ front ++ rest → (rest ≡ [] → ⊥) → reply_at 2097152 front ≡ a → (answer (r, length (reply_bytes r)) ≡ reply_at 2097152 (front ++ rest)) → a ≡ Err More
not_at_front r front rest (Err More) i e some is whole = refl
not_at_front r front rest (Err (Fault place y)) i e some is whole = (let k = fault_once 2097152 place front rest y is in absurd cc)
not_at_front r front rest (Ok p) i e some is whole =
    let same = out p (r, length (reply_bytes r)) (sym (value_again (reply_stays 2097152 front rest) p is) ∙ sym whole) in
    let k = value (reply_found 2097152 front) p is in
    let there = k.there in
    let size : p.1 ≡ length front + length rest = ap (λ (q : Reply × ℕ). q.1) same ∙ ap (λ (bytes : List ℕ). length bytes) e ∙ length-append front rest in
    absurd (some (no_rest rest (omega arith)))
  where
    no_rest : (xs : List ℕ) → length xs ≤ 0 → xs ≡ []
    no_rest [] le = refl
    no_rest (x ∷ xs) le = absurd (omega arith)

pub front_wants_more : FrontWantsMore
front_wants_more r front rest i e some =
    not_at_front r front rest (reply_at 2097152 front) i e some refl (sym (reply_back r [] i) ∙ ap (reply_at 2097152) (append-nil (reply_bytes r) ∙ e))
