-- What is written is read back: operations and whole messages.
use Rattle.std.proofs.Common.{◌≡◌, ℕ, ◌+◌, ◌<◌, ◌≤◌, ◌^◌, ◌%◌, true, false, eqb, ltb, List, [], ◌++◌, length, Option, Some, None, Result, Ok, refl, sym, subst, append_assoc, arith}
use Rattle.std.specs.Prelude.{pos}
use Rattle.std.specs.List.{flat_map}
use Rattle.std.proofs.lemmas.Bool.{le-ltb}
use Rattle.std.proofs.lemmas.Bool.Decides.{nat_tests}
use Rattle.std.proofs.lemmas.List.{append-nil}
use Rattle.ber_core.specs.Element.{IsTag, element}
use Rattle.ber_core.specs.Number.{shortest_integer}
use Rattle.ldap_types.specs.declared.reply.Reply.{Reply}
use Rattle.ldap_types.specs.declared.reply.ReplyOp.{ReplyOp}
use Rattle.ldap_types.specs.declared.reply.ReplyOp.TheVariants as op
use Rattle.ldap_types.specs.declared.reply.LdapResult.{LdapResult}
use Rattle.ldap_types.specs.declared.request.RawAttr.{RawAttr}
use Rattle.ber_core.specs.Window.{Stop, Window, Reading, inside, octets, many}
use Rattle.ldap_replies.specs.Form as form
use Rattle.ldap_replies.specs.Form.{octet_string, integer, enumerated, partial_attribute, partial_attribute_list, protocol_op, code_number, reply_bytes, IsInRange}
use Rattle.ldap_replies.specs.Grammar.{exact, exact_optional, text, message_id, result_code, ldap_result, result_inside, attribute_inside, attribute, entry_inside, extended_inside, is_reply_tag, op_inside, operation, reply_inside, reply_at}
use Rattle.ldap_replies.proofs.Back.{Begins, Holds, step, begins, begins_whole, onward, onward_whole, head, two_there, tag_begins, inside_holds, opens, exact_back, optional_back, optional_other, optional_end, ended_back, many_back, element_some, octets_back, exact_int_back}

-- ---- leaves

abbrev read_number : ℕ → Result ℕ Stop
read_number n = Ok n

message_id_back : (w : Window) (n : ℕ) → n ≤ 2147483647 → Holds w (shortest_integer (pos n)) → message_id w ≡ read_number n
unfolding message_id
message_id_back w n le h =
    let low : ltb n 0 ≡ false = le-ltb n 0 (omega arith) in
    let high : ltb 2147483647 n ≡ false = le-ltb 2147483647 n le in
    let e = exact_int_back w n (omega arith) h in
    rw (e, low, high) refl

result_code_back : (w : Window) (n : ℕ) → n < 2 ^ 32 → Holds w (shortest_integer (pos n)) → result_code w ≡ read_number n
unfolding result_code
result_code_back w n lt h =
    let high : ltb 4294967295 n ≡ false = le-ltb 4294967295 n (omega arith) in
    let e = exact_int_back w n lt h in
    rw (e, high) refl

is_tag : (tag : ℕ) → eqb (tag % 32) 31 ≡ false → IsTag tag
is_tag tag e = grind (arith, nat_tests)

pub text_back : (w : Window) (bytes : List ℕ) → Begins w (octet_string bytes) → (text w ≡ Ok (bytes, step w (length (octet_string bytes)))) × (2 ≤ w.left)
text_back w bytes b = (exact_back 0x04 octets w bytes bytes (is_tag 0x04 refl) b (λ v h. octets_back v bytes h), two_there w 0x04 bytes (is_tag 0x04 refl) b)

texts_back : (w : Window) (all : List (List ℕ)) → Holds w (flat_map octet_string all) → many text w ≡ Ok all
texts_back w all h = many_back text octet_string text_back (λ x. element_some 0x04 x) all w h

-- ---- parts

-- a part that stands at the front, and the place after it
abbrev ReadsBack : {A : Type 0} → (Window → Reading A) → A → List ℕ → Type 0
ReadsBack piece x front = (w : Window) (others : List ℕ) → Holds w (front ++ others) → (v : Window) × Holds v others × (piece w ≡ Ok (x, v))

abbrev InsideReadsBack : {A : Type 0} → (Window → Result A Stop) → A → List ℕ → Type 0
InsideReadsBack content x body = (w : Window) → Holds w body → content w ≡ Ok x

regroup : (w : Window) (a b c : List ℕ) → Holds w (a ++ b ++ c) → Holds w (a ++ (b ++ c))
regroup w a b c h = subst (λ (bytes : List ℕ). Holds w bytes) (append_assoc a b c) h

with_end : (w : Window) (a : List ℕ) → Holds w a → Holds w (a ++ [])
with_end w a h = subst (λ (bytes : List ℕ). Holds w bytes) (sym (append-nil a)) h

element_reads_back : {A : Type 0} (tag : ℕ) (content : Window → Result A Stop) (x : A) (body : List ℕ) → eqb (tag % 32) 31 ≡ false → InsideReadsBack content x body → ReadsBack (exact tag content) x (element tag body)
element_reads_back tag content x body t i w others h =
    (step w (length (element tag body)), onward w (element tag body) others h, exact_back tag content w body x (is_tag tag t) (begins w (element tag body) others h) i)

text_reads_back : (bytes : List ℕ) → ReadsBack text bytes (octet_string bytes)
text_reads_back bytes = element_reads_back 0x04 octets bytes bytes refl (λ v h. octets_back v bytes h)

result_reads_back : (r : LdapResult) → r.code.number < 2 ^ 32 → ReadsBack ldap_result r (form.ldap_result r)
unfolding ldap_result form.ldap_result
result_reads_back r lt w others h =
    let a = enumerated r.code.number in
    let b = octet_string r.matched in
    let c = octet_string r.text in
    let s1 = element_reads_back 0x0a result_code r.code.number (shortest_integer (pos r.code.number)) refl (λ v k. result_code_back v r.code.number lt k) w (b ++ (c ++ others)) (regroup w a b (c ++ others) (regroup w (a ++ b) c others h)) in
    let s2 = text_reads_back r.matched s1.0 (c ++ others) s1.1 in
    let s3 = text_reads_back r.text s2.0 others s2.1 in
    let e1 = s1.2 in let e2 = s2.2 in let e3 = s3.2 in
    (s3.0, s3.1, rw (e1, e2, e3) refl)

result_inside_back : (r : LdapResult) → r.code.number < 2 ^ 32 → InsideReadsBack result_inside r (form.ldap_result r)
unfolding result_inside
result_inside_back r lt w h =
    let s = result_reads_back r lt w [] (with_end w (form.ldap_result r) h) in
    let e = s.2 in
    let over = ended_back s.0 s.1 in
    rw (e, over) refl

attribute_inside_back : (a : RawAttr) → InsideReadsBack attribute_inside a (octet_string a.name ++ element 0x31 (flat_map octet_string a.vals))
unfolding attribute_inside
attribute_inside_back a w h =
    let s1 = text_reads_back a.name w (element 0x31 (flat_map octet_string a.vals)) h in
    let s2 = element_reads_back 0x31 (many text) a.vals (flat_map octet_string a.vals) refl (λ v k. texts_back v a.vals k) s1.0 [] (with_end s1.0 (element 0x31 (flat_map octet_string a.vals)) s1.1) in
    let over = ended_back s2.0 s2.1 in
    let e1 = s1.2 in let e2 = s2.2 in
    rw (e1, e2, over) refl

attribute_back : (w : Window) (a : RawAttr) → Begins w (partial_attribute a) → (attribute w ≡ Ok (a, step w (length (partial_attribute a)))) × (2 ≤ w.left)
unfolding partial_attribute
attribute_back w a b =
    let body = octet_string a.name ++ element 0x31 (flat_map octet_string a.vals) in
    (exact_back 0x30 attribute_inside w body a (is_tag 0x30 refl) b (attribute_inside_back a), two_there w 0x30 body (is_tag 0x30 refl) b)

attribute_some : (a : RawAttr) → 0 < length (partial_attribute a)
unfolding partial_attribute
attribute_some a = element_some 0x30 (octet_string a.name ++ element 0x31 (flat_map octet_string a.vals))

attributes_back : (attrs : List RawAttr) → InsideReadsBack (many attribute) attrs (flat_map partial_attribute attrs)
attributes_back attrs w h = many_back attribute partial_attribute attribute_back attribute_some attrs w h

entry_inside_back : (name : List ℕ) (attrs : List RawAttr) → InsideReadsBack entry_inside (op.Entry name attrs) (octet_string name ++ partial_attribute_list attrs)
unfolding entry_inside
entry_inside_back name attrs w h =
    let s1 = text_reads_back name w (partial_attribute_list attrs) h in
    let s2 = element_reads_back 0x30 (many attribute) attrs (flat_map partial_attribute attrs) refl (attributes_back attrs) s1.0 [] (with_end s1.0 (partial_attribute_list attrs) s1.1) in
    let over = ended_back s2.0 s2.1 in
    let e1 = s1.2 in let e2 = s2.2 in
    rw (e1, e2, over) refl

-- the two last fields of an extended response, each of which may be left out
value_reads_back : (value : Option (List ℕ)) (w : Window) → Holds w (form.optional 0x8b value) → (v : Window) × Holds v [] × (exact_optional 0x8b octets w ≡ Ok (value, v))
value_reads_back None w h = (w, h, optional_end 0x8b octets w h)
value_reads_back (Some x) w h = (step w (length (element 0x8b x)), onward_whole w (element 0x8b x) h, optional_back 0x8b octets w x x (is_tag 0x8b refl) (begins_whole w (element 0x8b x) h) (λ v k. octets_back v x k))

oid_reads_back : (oid value : Option (List ℕ)) (w : Window) → Holds w (form.optional 0x8a oid ++ form.optional 0x8b value) → (v : Window) × Holds v (form.optional 0x8b value) × (exact_optional 0x8a octets w ≡ Ok (oid, v))
oid_reads_back None None w h = (w, h, optional_end 0x8a octets w h)
oid_reads_back None (Some x) w h = (w, h, optional_other 0x8a 0x8b octets w x refl (is_tag 0x8b refl) (begins_whole w (element 0x8b x) h))
oid_reads_back (Some x) value w h =
    (step w (length (element 0x8a x)), onward w (element 0x8a x) (form.optional 0x8b value) h, optional_back 0x8a octets w x x (is_tag 0x8a refl) (begins w (element 0x8a x) (form.optional 0x8b value) h) (λ v k. octets_back v x k))

extended_inside_back : (r : LdapResult) (oid value : Option (List ℕ)) → r.code.number < 2 ^ 32 → InsideReadsBack extended_inside (op.Extended r oid value) (form.ldap_result r ++ form.optional 0x8a oid ++ form.optional 0x8b value)
unfolding extended_inside
extended_inside_back r oid value lt w h =
    let a = form.optional 0x8a oid in
    let b = form.optional 0x8b value in
    let s1 = result_reads_back r lt w (a ++ b) (regroup w (form.ldap_result r) a b h) in
    let s2 = oid_reads_back oid value s1.0 s1.1 in
    let s3 = value_reads_back value s2.0 s2.1 in
    let over = ended_back s3.0 s3.1 in
    let e1 = s1.2 in let e2 = s2.2 in let e3 = s3.2 in
    rw (e1, e2, e3, over) refl

-- ---- the message

record IsOpOf (op : ReplyOp) (bytes : List ℕ) : Type 0 where
  tag : ℕ
  body : List ℕ
  spelled : bytes ≡ element tag body
  known : is_reply_tag tag ≡ true
  tag_form : eqb (tag % 32) 31 ≡ false
  back : InsideReadsBack (op_inside tag) op body

op_of : (o : ReplyOp) → code_number o < 2 ^ 32 → IsOpOf o (protocol_op o)
unfolding op_inside
op_of (op.Bind r) lt = record { tag = 0x61; body = form.ldap_result r; spelled = refl; known = refl; tag_form = refl; back = λ w h. (let e = result_inside_back r lt w h in rw e refl) }
op_of (op.Entry name attrs) lt = record { tag = 0x64; body = octet_string name ++ partial_attribute_list attrs; spelled = refl; known = refl; tag_form = refl; back = entry_inside_back name attrs }
op_of (op.Done r) lt = record { tag = 0x65; body = form.ldap_result r; spelled = refl; known = refl; tag_form = refl; back = λ w h. (let e = result_inside_back r lt w h in rw e refl) }
op_of (op.Modify r) lt = record { tag = 0x67; body = form.ldap_result r; spelled = refl; known = refl; tag_form = refl; back = λ w h. (let e = result_inside_back r lt w h in rw e refl) }
op_of (op.Add r) lt = record { tag = 0x69; body = form.ldap_result r; spelled = refl; known = refl; tag_form = refl; back = λ w h. (let e = result_inside_back r lt w h in rw e refl) }
op_of (op.Delete r) lt = record { tag = 0x6b; body = form.ldap_result r; spelled = refl; known = refl; tag_form = refl; back = λ w h. (let e = result_inside_back r lt w h in rw e refl) }
op_of (op.Rename r) lt = record { tag = 0x6d; body = form.ldap_result r; spelled = refl; known = refl; tag_form = refl; back = λ w h. (let e = result_inside_back r lt w h in rw e refl) }
op_of (op.Compare r) lt = record { tag = 0x6f; body = form.ldap_result r; spelled = refl; known = refl; tag_form = refl; back = λ w h. (let e = result_inside_back r lt w h in rw e refl) }
op_of (op.Extended r oid value) lt = record { tag = 0x78; body = form.ldap_result r ++ form.optional 0x8a oid ++ form.optional 0x8b value; spelled = refl; known = refl; tag_form = refl; back = extended_inside_back r oid value lt }

operation_back : (o : ReplyOp) (w : Window) → code_number o < 2 ^ 32 → Holds w (protocol_op o) → (v : Window) × Holds v [] × (operation w ≡ Ok (o, v))
unfolding operation
operation_back o w lt h =
    let k = op_of o lt in
    let hold : Holds w (element k.tag k.body) = subst (λ (bytes : List ℕ). Holds w bytes) k.spelled h in
    let t = is_tag k.tag k.tag_form in
    let b = begins_whole w (element k.tag k.body) hold in
    let first = tag_begins w k.tag k.body t b in
    let known = k.known in
    let opened = opens w k.tag k.body t b in
    let inner = k.back (inside w (head k.tag (length k.body))) (inside_holds w k.tag k.body b) in
    (step w (length (element k.tag k.body)), onward_whole w (element k.tag k.body) hold, rw (first, known, opened, inner) refl)

reply_inside_back : (r : Reply) → r.id ≤ 2147483647 → code_number r.op < 2 ^ 32 → InsideReadsBack reply_inside r (integer r.id ++ protocol_op r.op)
unfolding reply_inside
reply_inside_back r le lt w h =
    let s1 = element_reads_back 0x02 message_id r.id (shortest_integer (pos r.id)) refl (λ v k. message_id_back v r.id le k) w (protocol_op r.op) h in
    let s2 = operation_back r.op s1.0 lt s1.1 in
    let over = ended_back s2.0 s2.1 in
    let e1 = s1.2 in let e2 = s2.2 in
    rw (e1, e2, over) refl

pub reply_back : (r : Reply) (rest : List ℕ) → IsInRange r → reply_at 2097152 (reply_bytes r ++ rest) ≡ Ok (r, length (reply_bytes r))
unfolding reply_at reply_bytes
reply_back r rest i =
    let body = integer r.id ++ protocol_op r.op in
    let w : Window = record { start = 0; at = 0; left = 2097152; bytes = element 0x30 body ++ rest } in
    let small : 2097152 < 2 ^ 64 = omega arith in
    let b : Begins w (element 0x30 body) = record { rest = rest; parts = refl; fits = i.within; small = small } in
    let opened = opens w 0x30 body (is_tag 0x30 refl) b in
    let inner = reply_inside_back r i.id i.code (inside w (head 0x30 (length body))) (inside_holds w 0x30 body b) in
    let zero_at : 0 + length (element 0x30 body) ≡ length (element 0x30 body) = omega arith in
    rw (opened, inner, zero_at) refl
