-- What is read was written so: operations and whole messages.
use Rattle.std.proofs.Common.{◌≡◌, ℕ, zero, suc, ◌+◌, ◌<◌, ◌≤◌, ◌^◌, Bool, true, false, cond, ltb, List, [], ◌∷◌, ◌++◌, length, take, Option, Some, None, Result, Ok, Err, refl, sym, ap, subst, ◌∙◌, arith, length-append}
use Rattle.std.specs.Prelude.{ℤ, pos, negsuc, ◌==◌, ◌||◌}
use Rattle.std.specs.List.{flat_map}
use Rattle.std.proofs.lemmas.Bool.{ltb-false, eqb-true}
use Rattle.std.proofs.lemmas.Bool.Decides.{nat_tests}
use Rattle.std.proofs.lemmas.List.{take_at, length-take-le}
use Rattle.ber_core.specs.declared.fault.BerWhy.TheVariants as ber_why
use Rattle.ber_core.specs.Element.{element}
use Rattle.ber_core.specs.Number.{IsBytes, shortest_integer}
use Rattle.ldap_types.specs.declared.reply.Reply.{Reply}
use Rattle.ldap_types.specs.declared.reply.ReplyOp.{ReplyOp}
use Rattle.ldap_types.specs.declared.reply.ReplyOp.TheVariants as op
use Rattle.ldap_types.specs.declared.reply.LdapResult.{LdapResult}
use Rattle.std.specs.Prelude.{IfOk}
use Rattle.ber_core.specs.Cursor.{Gives}
use Rattle.ber_core.specs.declared.fault.ReadFault.{ReadFault}
use Rattle.ber_core.specs.declared.fault.NotLdapWhy.{NotLdapWhy}
use Rattle.ber_core.specs.declared.fault.NotLdapWhy.TheVariants as why
use Rattle.ber_core.specs.Window.{Stop, More, Fault, Window, Reading, ◌>>=◌, tag_here, octets, many, in_range, ranged, outermost}
use Rattle.ber_core.proofs.Sound.{Good, good, stopped, so, also, ok_so, either, value, chosen_true, Covers, Sound, SoundInside, covers_map, ended_sound}
use Rattle.ldap_replies.specs.Form as form
use Rattle.ldap_replies.specs.Form.{octet_string, integer, enumerated, partial_attribute, partial_attribute_list, protocol_op, code_number, reply_bytes, IsInRange}
use Rattle.ldap_replies.specs.Grammar.{open_exact, exact, exact_optional, text, message_id, in_32_bits, result_code, ldap_result, result_inside, attribute_inside, attribute, entry_inside, extended_inside, is_reply_tag, op_inside, operation, reply_inside, reply_at}
use Rattle.ldap_replies.proofs.Found.{Are, Passes, joined, filled_last, Piece, Content, passes, written, exact_sound, many_found, octets_found, Fewest, exact_int_found, fewest_are}

-- ---- leaves in their ranges

in_range_says : (n : ℕ) (z : ℤ) → in_range 0 z ≡ Some n → (z ≡ pos n) × (n ≤ 2147483647)
in_range_says n (pos m) e = by_tests (ltb m 0) (ltb 2147483647 m) refl e
  where
    by_tests : (a b : Bool) → ltb 2147483647 m ≡ b → cond (a || b) None (Some m) ≡ Some n → (pos m ≡ pos n) × (n ≤ 2147483647)
    by_tests true b q e = absurd cc
    by_tests false true q e = absurd cc
    by_tests false false q e = (let k : m ≡ n = cc in (ap pos k, subst (λ (i : ℕ). i ≤ 2147483647) k (ltb-false 2147483647 m q)))
in_range_says n (negsuc m) e = absurd cc

in_32_bits_says : (n : ℕ) (z : ℤ) → in_32_bits z ≡ Some n → (z ≡ pos n) × (n < 2 ^ 32)
in_32_bits_says n (pos m) e = by_test (ltb 4294967295 m) refl e
  where
    by_test : (b : Bool) → ltb 4294967295 m ≡ b → cond b None (Some m) ≡ Some n → (pos m ≡ pos n) × (n < 2 ^ 32)
    by_test true q e = absurd cc
    by_test false q e = (let k : m ≡ n = cc in (ap pos k, subst (λ (i : ℕ). i < 2 ^ 32) k (let le = ltb-false 4294967295 m q in omega arith)))
in_32_bits_says n (negsuc m) e = absurd cc

-- a number, where the range says what it is
ranged_found : (w : Window) (y : NotLdapWhy) (at : ℕ) (range : ℤ → Option ℕ) (P : ℕ → Type 0) → ((n : ℕ) (z : ℤ) → range z ≡ Some n → (z ≡ pos n) × P n) → (z : ℤ) → Covers w (λ body. Fewest body z)
    → Good (λ n. Covers w (Are (shortest_integer (pos n))) × P n) (ranged y at (range z))
ranged_found w y at range P says z c = by_range (range z) refl
  where
    by_range : (r : Option ℕ) → range z ≡ r → Good (λ n. Covers w (Are (shortest_integer (pos n))) × P n) (ranged y at r)
    by_range (Some n) e = good n (let k = says n z e in (covers_map w (λ body. Fewest body z) (Are (shortest_integer (pos n))) (λ body f. fewest_are body (pos n) (subst (λ (i : ℤ). Fewest body i) k.0 f)) c, k.1))
    by_range None e = stopped _

message_id_found : (w : Window) → Good (λ n. Covers w (Are (shortest_integer (pos n))) × (n ≤ 2147483647)) (message_id w)
unfolding message_id
message_id_found w = so (exact_int_found w) (λ z c. ranged_found w why.Id w.start (in_range 0) (λ n. n ≤ 2147483647) in_range_says z c)

result_code_found : (w : Window) → Good (λ n. Covers w (Are (shortest_integer (pos n))) × (n < 2 ^ 32)) (result_code w)
unfolding result_code
result_code_found w = so (exact_int_found w) (λ z c. ranged_found w why.Shape w.start in_32_bits (λ n. n < 2 ^ 32) in_32_bits_says z c)

-- ---- parts

-- a part that was read, its bytes, and what is known of its value
abbrev Found : {A : Type 0} → (Window → Reading A) → (A → List ℕ) → (A → Type 0) → Type 0
Found piece f P = (w : Window) → Good (λ p. Passes w p.1 (f p.0) × P p.0) (piece w)

abbrev FoundInside : {A : Type 0} → (Window → Result A Stop) → (A → List ℕ) → (A → Type 0) → Type 0
FoundInside content f P = (w : Window) → Good (λ x. Covers w (Are (f x)) × P x) (content w)

abbrev Whatever : {A : Type 0} → A → Type 0
Whatever x = Unit {0}

exact_found : {A : Type 0} (tag : ℕ) (content : Window → Result A Stop) (f : A → List ℕ) (P : A → Type 0) → FoundInside content f P → Found (exact tag content) (λ x. element tag (f x)) P
unfolding exact
exact_found tag content f P h w = ok_so (open_exact tag w) (λ o e. so (h o.0) (λ x c. good (x, o.1) (passes (λ y. element tag (f y)) w (x, o.1) (written tag f w o x e c.0), c.1)))

octets_there : FoundInside octets (λ x. x) Whatever
octets_there w = also (octets_found w) (λ x c. (c, tt))

text_found : Found text octet_string Whatever
text_found = exact_found 0x04 octets (λ x. x) Whatever octets_there

texts_found : FoundInside (many text) (flat_map octet_string) Whatever
texts_found w = also (many_found text octet_string (exact_sound 0x04 octets (λ x. x) octets_found) w) (λ x c. (c, tt))

result_found : Found ldap_result form.ldap_result (λ r. r.code.number < 2 ^ 32)
unfolding ldap_result form.ldap_result
result_found w =
    so (exact_found 0x0a result_code (λ n. shortest_integer (pos n)) (λ n. n < 2 ^ 32) result_code_found w) (λ a s. so (text_found a.1) (λ b t. so (text_found b.1) (λ c u.
    good (record { code = record { number = a.0 }; matched = b.0; text = c.0 }, c.1)
    (joined w b.1 c.1 (enumerated a.0 ++ octet_string b.0) (octet_string c.0) (joined w a.1 b.1 (enumerated a.0) (octet_string b.0) s.0 t.0) u.0, s.1))))

result_inside_found : FoundInside result_inside form.ldap_result (λ r. r.code.number < 2 ^ 32)
unfolding result_inside
result_inside_found w = so (result_found w) (λ r s. so (ended_sound r.1) (λ x c. good r.0 (filled_last w r.1 (form.ldap_result r.0) s.0 c, s.1)))

attribute_inside_found : SoundInside attribute_inside (Content (λ a. octet_string a.name ++ element 0x31 (flat_map octet_string a.vals)))
unfolding attribute_inside
attribute_inside_found w =
    so (text_found w) (λ a s. so (exact_found 0x31 (many text) (flat_map octet_string) Whatever texts_found a.1) (λ b t. so (ended_sound b.1) (λ x c.
    good (record { name = a.0; vals = b.0 }) (filled_last w b.1 (octet_string a.0 ++ element 0x31 (flat_map octet_string b.0)) (joined w a.1 b.1 (octet_string a.0) (element 0x31 (flat_map octet_string b.0)) s.0 t.0) c))))

attribute_found : Sound attribute (Piece partial_attribute)
unfolding partial_attribute
attribute_found = exact_sound 0x30 attribute_inside (λ a. octet_string a.name ++ element 0x31 (flat_map octet_string a.vals)) attribute_inside_found

attributes_found : FoundInside (many attribute) (flat_map partial_attribute) Whatever
attributes_found w = also (many_found attribute partial_attribute attribute_found w) (λ x c. (c, tt))

-- ---- operations, by what is inside them

abbrev HasCode : ReplyOp → Type 0
HasCode o = code_number o < 2 ^ 32

-- what the operation is that was read from inside an element with this tag
abbrev OpFound : ℕ → (Window → Result ReplyOp Stop) → Type 0
OpFound tag content = (w : Window) → Good (λ o. (body : List ℕ) × Covers w (Are body) × (element tag body ≡ protocol_op o) × HasCode o) (content w)

entry_found : OpFound 0x64 entry_inside
unfolding entry_inside
entry_found w =
    so (text_found w) (λ a s. so (exact_found 0x30 (many attribute) (flat_map partial_attribute) Whatever attributes_found a.1) (λ b t. so (ended_sound b.1) (λ x c.
    let body = octet_string a.0 ++ partial_attribute_list b.0 in
    good (op.Entry a.0 b.0) (body, filled_last w b.1 body (joined w a.1 b.1 (octet_string a.0) (partial_attribute_list b.0) s.0 t.0) c, refl, omega arith))))

optional_found : (tag : ℕ) (w : Window) → Good (λ p. Passes w p.1 (form.optional tag p.0)) (exact_optional tag octets w)
unfolding exact_optional
optional_found tag w =
    either (w.left == 0) (λ z. good (None, w) (stays w)) (λ f. ok_so (tag_here w) (λ t e. either (t == tag)
    (λ s. so (exact_found tag octets (λ x. x) Whatever octets_there w) (λ p r. good (Some p.0, p.1) r.0))
    (λ other. good (None, w) (stays w))))
  where
    stays : (w : Window) → Passes w w []
    stays w = record { front = []; parts = refl; left = omega arith; at = omega arith; are = λ h. refl }

extended_found : OpFound 0x78 extended_inside
unfolding extended_inside
extended_found w =
    so (result_found w) (λ r s. so (optional_found 0x8a r.1) (λ a t. so (optional_found 0x8b a.1) (λ b u. so (ended_sound b.1) (λ x c.
    let first = form.ldap_result r.0 in
    let body = first ++ form.optional 0x8a a.0 ++ form.optional 0x8b b.0 in
    good (op.Extended r.0 a.0 b.0) (body, filled_last w b.1 body (joined w a.1 b.1 (first ++ form.optional 0x8a a.0) (form.optional 0x8b b.0) (joined w r.1 a.1 first (form.optional 0x8a a.0) s.0 t) u) c, refl, s.1)))))

result_op : (tag : ℕ) (make : LdapResult → ReplyOp) → ((r : LdapResult) → element tag (form.ldap_result r) ≡ protocol_op (make r)) → ((r : LdapResult) → code_number (make r) ≡ r.code.number) → OpFound tag (λ w. result_inside w >>= λ r. Ok (make r))
result_op tag make is code w = so (result_inside_found w) (λ r c. good (make r) (form.ldap_result r, c.0, is r, subst (λ (n : ℕ). n < 2 ^ 32) (sym (code r)) c.1))

last_tag : (t : ℕ) → is_reply_tag t ≡ true → (t == 0x61) ≡ false → (t == 0x64) ≡ false → (t == 0x65) ≡ false → (t == 0x67) ≡ false → (t == 0x69) ≡ false → (t == 0x6b) ≡ false → (t == 0x6d) ≡ false → (t == 0x6f) ≡ false → t ≡ 0x78
last_tag t y a b c d e f g h = grind (arith, nat_tests)

op_found : (tag : ℕ) → is_reply_tag tag ≡ true → OpFound tag (op_inside tag)
unfolding op_inside
op_found tag y w =
    either (tag == 0x61) (λ z. rw (eqb-true tag 0x61 z) (result_op 0x61 (λ r. op.Bind r) (λ r. refl) (λ r. refl) w)) (λ n0.
    either (tag == 0x64) (λ z. rw (eqb-true tag 0x64 z) (entry_found w)) (λ n1.
    either (tag == 0x65) (λ z. rw (eqb-true tag 0x65 z) (result_op 0x65 (λ r. op.Done r) (λ r. refl) (λ r. refl) w)) (λ n2.
    either (tag == 0x67) (λ z. rw (eqb-true tag 0x67 z) (result_op 0x67 (λ r. op.Modify r) (λ r. refl) (λ r. refl) w)) (λ n3.
    either (tag == 0x69) (λ z. rw (eqb-true tag 0x69 z) (result_op 0x69 (λ r. op.Add r) (λ r. refl) (λ r. refl) w)) (λ n4.
    either (tag == 0x6b) (λ z. rw (eqb-true tag 0x6b z) (result_op 0x6b (λ r. op.Delete r) (λ r. refl) (λ r. refl) w)) (λ n5.
    either (tag == 0x6d) (λ z. rw (eqb-true tag 0x6d z) (result_op 0x6d (λ r. op.Rename r) (λ r. refl) (λ r. refl) w)) (λ n6.
    either (tag == 0x6f) (λ z. rw (eqb-true tag 0x6f z) (result_op 0x6f (λ r. op.Compare r) (λ r. refl) (λ r. refl) w)) (λ n7.
    rw (last_tag tag y n0 n1 n2 n3 n4 n5 n6 n7) (extended_found w)))))))))

operation_found : Found operation protocol_op HasCode
unfolding operation
operation_found w = ok_so (tag_here w) (λ t e. ok_so (cond (is_reply_tag t) (open_exact t w) (Err (Fault w.at why.Op))) (λ o f.
    let k = chosen_true (is_reply_tag t) (open_exact t w) (Fault w.at why.Op) o f in
    so (op_found t k.0 o.0) (λ x c.
    let body = c.0 in
    let r = passes (λ (b : List ℕ). element t b) w (body, o.1) (written t (λ (b : List ℕ). b) w o body k.1 c.1) in
    good (x, o.1) (subst (λ (bytes : List ℕ). Passes w o.1 bytes) c.2 r, c.3))))

-- ---- the message

reply_inside_found : (w : Window) → Good (λ r. Covers w (Are (integer r.id ++ protocol_op r.op)) × (r.id ≤ 2147483647) × HasCode r.op) (reply_inside w)
unfolding reply_inside
reply_inside_found w =
    so (exact_found 0x02 message_id (λ n. shortest_integer (pos n)) (λ n. n ≤ 2147483647) message_id_found w) (λ a s. so (operation_found a.1) (λ b t. so (ended_sound b.1) (λ x c.
    good (record { id = a.0; op = b.0 }) (filled_last w b.1 (integer a.0 ++ protocol_op b.0) (joined w a.1 b.1 (integer a.0) (protocol_op b.0) s.0 t.0) c, s.1, t.1))))

outermost_ok : {A : Type 0} (r : Result A Stop) (x : A) → outermost r ≡ Ok x → r ≡ Ok x
outermost_ok (Ok y) x e = e
outermost_ok (Err More) x e = absurd cc
outermost_ok (Err (Fault p (why.Ber ber_why.TooLarge))) x e = absurd cc
outermost_ok (Err (Fault p (why.Ber ber_why.LongTag))) x e = absurd cc
outermost_ok (Err (Fault p (why.Ber ber_why.Indefinite))) x e = absurd cc
outermost_ok (Err (Fault p (why.Ber ber_why.LengthForm))) x e = absurd cc
outermost_ok (Err (Fault p why.Id)) x e = absurd cc
outermost_ok (Err (Fault p why.Op)) x e = absurd cc
outermost_ok (Err (Fault p why.Shape)) x e = absurd cc
outermost_ok (Err (Fault p why.TooLarge)) x e = absurd cc
outermost_ok (Err (Fault p why.Depth)) x e = absurd cc

-- a reply that was read: its bytes, and its range
pub record IsFound (limit : ℕ) (bytes : List ℕ) (p : Reply × ℕ) : Type 0 where
  pub there : p.1 ≤ length bytes
  pub within : p.1 ≤ limit
  pub written : Are (reply_bytes p.0) (take p.1 bytes)
  pub id : p.0.id ≤ 2147483647
  pub code : code_number p.0.op < 2 ^ 32

pub reply_found : (limit : ℕ) (bytes : List ℕ) → Good (IsFound limit bytes) (reply_at limit bytes)
unfolding reply_at reply_bytes
reply_found limit bytes =
    let w : Window = record { start = 0; at = 0; left = limit; bytes = bytes } in
    ok_so (outermost (open_exact 0x30 w)) (λ o e. so (reply_inside_found o.0) (λ x c. good (x, o.1.at) (
    let k = outermost_ok (open_exact 0x30 w) o e in
    let body = integer x.id ++ protocol_op x.op in
    let r = passes (λ (b : List ℕ). element 0x30 b) w (body, o.1) (written 0x30 (λ (b : List ℕ). b) w o body k c.0) in
    let left = r.left in
    let at = r.at in
    let n_is : o.1.at ≡ length r.front = omega arith in
    let len : length bytes ≡ length r.front + length o.1.bytes = ap (λ (xs : List ℕ). length xs) r.parts ∙ length-append r.front o.1.bytes in
    let is : take o.1.at bytes ≡ r.front = ap (λ (n : ℕ). take n bytes) n_is ∙ ap (λ (xs : List ℕ). take (length r.front) xs) r.parts ∙ take_at r.front o.1.bytes (length r.front) refl in
    record { there = omega arith; within = omega arith; written = subst (λ (xs : List ℕ). Are (element 0x30 body) xs) (sym is) r.are; id = c.1; code = c.2 })))

-- ---- what the reader in code gave, where it gave a reply

IsBytes-take : (n : ℕ) (xs : List ℕ) → IsBytes xs → IsBytes (take n xs)
IsBytes-take zero xs h i = omega arith
IsBytes-take (suc n) [] h i = omega arith
IsBytes-take (suc n) (x ∷ xs) h zero = h zero
IsBytes-take (suc n) (x ∷ xs) h (suc i) = IsBytes-take n xs (λ j. h (suc j)) i

found_by : (bytes : List ℕ) (p : Reply × ℕ) → reply_at 2097152 bytes ≡ Ok p → IsFound 2097152 bytes p
found_by bytes p e = value (reply_found 2097152 bytes) p e

pub written_by : (bytes : List ℕ) (r : Result (Reply × ℕ) ReadFault) → IsBytes bytes → Gives (λ p. p) r (reply_at 2097152 bytes) → IfOk r (λ p. take p.1 bytes ≡ reply_bytes p.0)
written_by bytes (Ok p) fits g = (let k = found_by bytes p g in k.written (IsBytes-take p.1 bytes fits))
written_by bytes (Err e) fits g = tt

pub within_by : (bytes : List ℕ) (r : Result (Reply × ℕ) ReadFault) → IsBytes bytes → Gives (λ p. p) r (reply_at 2097152 bytes) → IfOk r (λ p. (p.1 ≤ length bytes) × IsInRange p.0)
within_by bytes (Ok p) fits g =
    let k = found_by bytes p g in
    let there = k.there in
    let within = k.within in
    let size : length (reply_bytes p.0) ≡ p.1 = ap (λ (xs : List ℕ). length xs) (sym (k.written (IsBytes-take p.1 bytes fits))) ∙ length-take-le p.1 bytes there in
    (there, record { id = k.id; code = k.code; within = omega arith })
within_by bytes (Err e) fits g = tt

-- what holds of the reading at these bytes holds of what the reader gave
pub only_by : (bytes : List ℕ) (r : Result (Reply × ℕ) ReadFault) (read : Result (Reply × ℕ) Stop) → Gives (λ p. p) r (reply_at 2097152 bytes) → reply_at 2097152 bytes ≡ read → Gives (λ p. p) r read
only_by bytes r read g e = subst (λ (a : Result (Reply × ℕ) Stop). Gives (λ p. p) r a) e g
