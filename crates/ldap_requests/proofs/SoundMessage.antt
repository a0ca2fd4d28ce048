-- What is read is spelled so: operations and whole messages.
use Rattle.std.proofs.Common.{◌≡◌, ℕ, zero, suc, ◌+◌, ◌≤◌, ◌<◌, ℤ, pos, negsuc, Bool, true, false, cond, ltb, List, [], ◌∷◌, ◌++◌, length, take, Option, Some, None, Result, Ok, Err, refl, sym, ap, subst, ◌∙◌, arith, length-append}
use Rattle.std.proofs.lemmas.Bool.{ltb-false, eqb-true}
use Rattle.std.proofs.lemmas.Bool.Decides.{nat_tests}
use Rattle.std.proofs.lemmas.List.{take_at, append-nil}
use Rattle.std.specs.Prelude.{◌==◌, ◌||◌, unwrap_or}
use Rattle.ber_core.specs.declared.fault.BerWhy.TheVariants as ber_why
use Rattle.ber_core.specs.Element.{IsElement}
use Rattle.ber_core.specs.Number.{integer_of}
use Rattle.ldap_types.specs.declared.request.Request.{Request}
use Rattle.ldap_types.specs.declared.request.Control.{Control}
use Rattle.ldap_types.specs.declared.request.Op.{Op}
use Rattle.ldap_types.specs.declared.request.Op.TheVariants as op
use Rattle.ldap_types.specs.declared.request.Auth.TheVariants.{Simple, Sasl}
use Rattle.ldap_types.specs.declared.request.Filter.{Filter}
use Rattle.ldap_types.specs.declared.request.Filter.TheViews.{out-Filter, out-roll-Filter}
use Rattle.ldap_types.specs.declared.request.Filter.TheOpen.{Filter-F}
use Rattle.ldap_types.specs.declared.request.RawAttr.{RawAttr}
use Rattle.ldap_types.specs.declared.request.RawMod.{RawMod}
use Rattle.ldap_types.specs.declared.request.Filter.TheVariants as filter
use Rattle.std.specs.Prelude.{IfOk}
use Rattle.ber_core.specs.Cursor.{Gives}
use Rattle.ber_core.specs.declared.fault.ReadFault.{ReadFault}
use Rattle.ber_core.specs.declared.fault.NotLdapWhy.{NotLdapWhy}
use Rattle.ber_core.specs.declared.fault.NotLdapWhy.TheVariants as why
use Rattle.ber_core.specs.Window.{Stop, Fault, More, Window, Reading, tag_here, open_here, open_as, octets, int, boolean, many, in_range, ranged, outermost}
use Rattle.ldap_requests.specs.Grammar.{text, count, message_id, attribute_inside, attribute, assertion, sasl, auth, bind_inside, unbind_inside, delete_inside, abandon_inside, add_inside, modification_inside, modification, modify_inside, rename_inside, compare_inside, extended_inside, some_piece, pieces, substrings_inside, is_filter_tag, simple_inside, filter_inside, filter_at, search_inside, is_op_tag, op_inside, operation, control_inside, control, request_inside, request_at}
use Rattle.ldap_requests.specs.Spelling.{Count, MessageId, Text, Attribute, Assertion, SaslCredentials, Authentication, Modification, PieceList, IsEmpty, Pieces, Substrings, Whatever, OneFilter, IsFilter, IsOp, IsControl, Spells}
use Rattle.ber_core.specs.Spelling.{no_value, Element, Then, ThenMaybe, Nothing, Each, Unknown, Octets, Integer, Boolean}
use Rattle.ber_core.proofs.Sound.{Good, good, stopped, so, also, ok_so, either, value, chosen_true, Reads, Covers, Sound, SoundInside, covers_map, before, before_maybe, opened, as_ok, element_sound, octets_sound, int_sound, boolean_sound, ended_sound, skip_sound, many_sound, inside_some, optional_sound, run_sound}

text_sound : Sound text Text
text_sound = element_sound 0x04 octets Octets octets_sound

texts_sound : SoundInside (many text) (Each Text)
texts_sound = many_sound text Text text_sound (λ front x p. inside_some 0x04 Octets front x p)

in_range_says : (least n : ℕ) (z : ℤ) → in_range least z ≡ Some n → (z ≡ pos n) × (least ≤ n) × (n ≤ 2147483647)
in_range_says least n (pos m) e = by_tests (ltb m least) (ltb 2147483647 m) refl refl e
  where
    by_tests : (a b : Bool) → ltb m least ≡ a → ltb 2147483647 m ≡ b → cond (a || b) None (Some m) ≡ Some n → (pos m ≡ pos n) × (least ≤ n) × (n ≤ 2147483647)
    by_tests true b p q e = absurd cc
    by_tests false true p q e = absurd cc
    by_tests false false p q e = (let k : m ≡ n = cc in (ap pos k, subst (λ (i : ℕ). least ≤ i) k (ltb-false m least p), subst (λ (i : ℕ). i ≤ 2147483647) k (ltb-false 2147483647 m q)))
in_range_says least n (negsuc m) e = absurd cc

ranged_sound : (w : Window) (y : NotLdapWhy) (at least : ℕ) (z : ℤ) → Covers w (λ body. Integer body z) → Good (λ n. Covers w (λ body. (integer_of body ≡ Some (pos n)) × (least ≤ n) × (n ≤ 2147483647))) (ranged y at (in_range least z))
ranged_sound w y at least z c = by_range (in_range least z) refl
  where
    by_range : (r : Option ℕ) → in_range least z ≡ r → Good (λ n. Covers w (λ body. (integer_of body ≡ Some (pos n)) × (least ≤ n) × (n ≤ 2147483647))) (ranged y at r)
    by_range (Some n) e = good n (let k = in_range_says least n z e in record { all = c.all; by = (c.by ∙ ap (λ (i : ℤ). Some i) k.0, k.1, k.2) })
    by_range None e = stopped _

count_sound : SoundInside count Count
unfolding count
count_sound w = so (int_sound w) (λ z c. also (ranged_sound w why.Shape w.start 0 z c) (λ n d. (let b = d.by in record { all = d.all; by = (b.0, b.2) })))

message_id_sound : SoundInside message_id MessageId
unfolding message_id
message_id_sound w = so (int_sound w) (λ z c. ranged_sound w why.Id w.start 1 z c)

attribute_inside_sound : SoundInside attribute_inside (λ body a. Then Text a.name (Then (Element 0x31 (Each Text)) a.vals Nothing) body)
unfolding attribute_inside
attribute_inside_sound w = so (text_sound w) (λ a s. so (element_sound 0x31 (many text) (Each Text) texts_sound a.1) (λ c t. so (ended_sound c.1) (λ u e.
    good (record { name = a.0; vals = c.0 }) (before w a s (before a.1 c t e)))))

attribute_sound : Sound attribute Attribute
attribute_sound = element_sound 0x30 attribute_inside _ attribute_inside_sound

some_attribute : (front : List ℕ) (a : RawAttr) → Attribute front a → 0 < length front
some_attribute front a p = inside_some 0x30 (λ body x. Then Text x.name (Then (Element 0x31 (Each Text)) x.vals Nothing) body) front a p

some_modification : (front : List ℕ) (m : RawMod) → Modification front m → 0 < length front
some_modification front m p = inside_some 0x30 (λ body x. Then (Element 0x0a Integer) x.kind (Then Attribute (record { name = x.name; vals = x.vals }) Nothing) body) front m p

assertion_sound : SoundInside assertion Assertion
unfolding assertion
assertion_sound w = so (text_sound w) (λ a s. so (text_sound a.1) (λ c t. so (ended_sound c.1) (λ u e. good (a.0, c.0) (before w a s (before a.1 c t e)))))

sasl_sound : SoundInside sasl SaslCredentials
unfolding sasl
sasl_sound w = so (text_sound w) (λ a s. so (optional_sound 0x04 octets Octets octets_sound a.1) (λ c t. also (ended_sound c.1) (λ u e.
    (let b = before w a s (before_maybe a.1 c t e) in record { all = b.all; by = (a.0, c.0, b.by) }))))

pub reads_map : {A : Type 0} (P R : List ℕ → A → Type 0) (w : Window) (p : A × Window) → ((front : List ℕ) → P front p.0 → R front p.0) → Reads w P p → Reads w R p
reads_map P R w p f r = record { front = r.front; parts = r.parts; left = r.left; at = r.at; spelled = f r.front r.spelled }

auth_sound : Sound auth Authentication
unfolding auth
auth_sound w = ok_so (tag_here w) (λ t e. either (t == 0x80)
    (λ y. so (element_sound 0x80 octets Octets octets_sound w) (λ p r. good (Simple p.0, p.1) (record { front = r.front; parts = r.parts; left = r.left; at = r.at; spelled = r.spelled })))
    (λ n. either (t == 0xa3)
    (λ y. so (element_sound 0xa3 sasl SaslCredentials sasl_sound w) (λ p r. good (Sasl, p.1) (record { front = r.front; parts = r.parts; left = r.left; at = r.at; spelled = r.spelled })))
    (λ m. stopped _)))

-- ---- operations: what is inside them is what an element with their tag has

-- an element with this tag and such a body spells the operation
abbrev OpInside : ℕ → List ℕ → Op → Type 0
OpInside tag body o = (bytes : List ℕ) → IsElement bytes tag body → IsOp bytes o

bind_sound : SoundInside bind_inside (OpInside 0x60)
unfolding bind_inside
bind_sound w = so (element_sound 0x02 int Integer int_sound w) (λ a s. so (text_sound a.1) (λ c t. so (auth_sound c.1) (λ i r. so (skip_sound i.1) (λ u e.
    good (op.Bind (record { version = a.0; name = c.0; auth = i.0 })) (covers_map w _ _ (λ body b bytes el. (body, el, b)) (before w a s (before a.1 c t (before c.1 i r e))))))))

unbind_sound : SoundInside unbind_inside (OpInside 0x42)
unfolding unbind_inside
unbind_sound w = either (w.left == 0) (λ z. good op.Unbind (let k : w.left ≡ 0 = eqb-true w.left 0 z in record { all = omega arith; by = rw k (λ bytes el. ([], el, refl)) })) (λ n. stopped _)

delete_sound : SoundInside delete_inside (OpInside 0x4a)
unfolding delete_inside
delete_sound w = so (octets_sound w) (λ x c. good (op.Delete x) (covers_map w _ _ (λ body b bytes el. (body, el, b)) c))

abandon_sound : SoundInside abandon_inside (OpInside 0x50)
unfolding abandon_inside
abandon_sound w = so (count_sound w) (λ x c. good (op.Abandon x) (covers_map w _ _ (λ body b bytes el. (body, el, b)) c))

add_sound : SoundInside add_inside (OpInside 0x68)
unfolding add_inside
add_sound w = so (text_sound w) (λ a s. so (element_sound 0x30 (many attribute) (Each Attribute) (many_sound attribute Attribute attribute_sound some_attribute) a.1) (λ c t. so (skip_sound c.1) (λ u e.
    good (op.Add a.0 c.0) (covers_map w _ _ (λ body b bytes el. (body, el, b)) (before w a s (before a.1 c t e))))))

modification_inside_sound : SoundInside modification_inside (λ body m. Then (Element 0x0a Integer) m.kind (Then Attribute (record { name = m.name; vals = m.vals }) Nothing) body)
unfolding modification_inside
modification_inside_sound w = so (element_sound 0x0a int Integer int_sound w) (λ a s. so (attribute_sound a.1) (λ c t. so (ended_sound c.1) (λ u e.
    good (record { kind = a.0; name = c.0.name; vals = c.0.vals }) (before w a s (before a.1 c t e)))))

modify_sound : SoundInside modify_inside (OpInside 0x66)
unfolding modify_inside
modify_sound w = so (text_sound w) (λ a s. so (element_sound 0x30 (many modification) (Each Modification) (many_sound modification Modification (element_sound 0x30 modification_inside _ modification_inside_sound) some_modification) a.1) (λ c t. so (skip_sound c.1) (λ u e.
    good (op.Modify a.0 c.0) (covers_map w _ _ (λ body b bytes el. (body, el, b)) (before w a s (before a.1 c t e))))))

rename_sound : SoundInside rename_inside (OpInside 0x6c)
unfolding rename_inside
rename_sound w = so (text_sound w) (λ a s. so (text_sound a.1) (λ c t. so (element_sound 0x01 boolean Boolean boolean_sound c.1) (λ i r. so (optional_sound 0x80 octets Octets octets_sound i.1) (λ m k. so (skip_sound m.1) (λ u e.
    good (op.Rename a.0 c.0 i.0 m.0) (covers_map w _ _ (λ body b bytes el. (body, el, b)) (before w a s (before a.1 c t (before c.1 i r (before_maybe i.1 m k e))))))))))

compare_sound : SoundInside compare_inside (OpInside 0x6e)
unfolding compare_inside
compare_sound w = so (text_sound w) (λ a s. so (element_sound 0x30 assertion Assertion assertion_sound a.1) (λ c t. so (skip_sound c.1) (λ u e.
    good (op.Compare a.0 c.0.0 c.0.1) (covers_map w _ _ (λ body b bytes el. (body, el, b)) (before w a s (before a.1 c t e))))))

extended_sound : SoundInside extended_inside (OpInside 0x77)
unfolding extended_inside
extended_sound w = so (element_sound 0x80 octets Octets octets_sound w) (λ a s. so (optional_sound 0x81 octets Octets octets_sound a.1) (λ c t. so (skip_sound c.1) (λ u e.
    good (op.Extended a.0 c.0) (covers_map w _ _ (λ body b bytes el. (body, el, b)) (before w a s (before_maybe a.1 c t e))))))

-- ---- filters

abbrev pub PiecesInside : List ℕ → List ℕ → Filter → Type 0
PiecesInside name body f = (p : PieceList) × (f ≡ filter.Substrings name p.0 p.1 p.2) × Pieces body p × (IsEmpty p → ⊥)

some_sound : (w : Window) (start : ℕ) (name : List ℕ) (p : PieceList) → Covers w (λ body. Pieces body p) → Good (λ f. Covers w (λ body. PiecesInside name body f)) (some_piece start (filter.Substrings name p.0 p.1 p.2))
some_sound w start name (None, [], None) c = stopped _
some_sound w start name (None, [], Some y) c = good (filter.Substrings name None [] (Some y)) (record { all = c.all; by = ((None, [], Some y), refl, c.by, λ e. (let k = e.2 in absurd cc)) })
some_sound w start name (None, m ∷ ms, l) c = good (filter.Substrings name None (m ∷ ms) l) (record { all = c.all; by = ((None, m ∷ ms, l), refl, c.by, λ e. (let k = e.1 in absurd cc)) })
some_sound w start name (Some x, ms, l) c = good (filter.Substrings name (Some x) ms l) (record { all = c.all; by = ((Some x, ms, l), refl, c.by, λ e. (let k = e.0 in absurd cc)) })

pieces_sound : (name : List ℕ) → SoundInside (pieces name) (PiecesInside name)
unfolding pieces
pieces_sound name w = so (optional_sound 0x80 octets Octets octets_sound w) (λ a s. so (run_sound 0x81 octets Octets octets_sound a.1) (λ c t. so (optional_sound 0x82 octets Octets octets_sound c.1) (λ i r. so (ended_sound i.1) (λ u e.
    some_sound w w.start name (a.0, c.0, i.0) (before_maybe w a s (before a.1 c t (before_maybe c.1 i r e)))))))

abbrev SubstringsInside : List ℕ → Filter → Type 0
SubstringsInside body f = (s : List ℕ × PieceList) × (f ≡ filter.Substrings s.0 s.1.0 s.1.1 s.1.2) × Substrings body s

substrings_sound : SoundInside substrings_inside SubstringsInside
unfolding substrings_inside
substrings_sound w = so (text_sound w) (λ a s. so (element_sound 0x30 (pieces a.0) (PiecesInside a.0) (pieces_sound a.0) a.1) (λ c t. so (ended_sound c.1) (λ u e. good c.0 (
    let k = t.spelled in
    let q = k.2.0 in
    let r : Reads a.1 (Element 0x30 Pieces) (q, c.1) = record { front = t.front; parts = t.parts; left = t.left; at = t.at; spelled = (k.0, k.1, k.2.2) } in
    let b : Covers w (Then Text a.0 (Then (Element 0x30 Pieces) q Nothing)) = before w a s (before a.1 (q, c.1) r e) in
    record { all = b.all; by = ((a.0, q), k.2.1, (b.by, k.2.3)) }))))

-- an element with this tag and such a body spells the filter, which is no deeper than one more than this
abbrev FilterInside : ℕ → ℕ → List ℕ → Filter → Type 0
FilterInside depth tag body f = (bytes : List ℕ) → IsElement bytes tag body → IsFilter (suc depth) bytes f

-- each variant, one layer opened
made : (depth : ℕ) (bytes : List ℕ) (f : Filter) (layer : Filter-F Filter) → out-Filter f ≡ layer → OneFilter (IsFilter depth) bytes layer → IsFilter (suc depth) bytes f
made depth bytes f layer e x = subst (λ (l : Filter-F Filter). OneFilter (IsFilter depth) bytes l) (sym e) x

open-And : (fs : List Filter) → out-Filter (filter.And fs) ≡ Filter-F.And fs
open-And fs = ap (λ (f : Filter). out-Filter f) (sym (filter.rolls-And fs)) ∙ out-roll-Filter (Filter-F.And fs)

open-Or : (fs : List Filter) → out-Filter (filter.Or fs) ≡ Filter-F.Or fs
open-Or fs = ap (λ (f : Filter). out-Filter f) (sym (filter.rolls-Or fs)) ∙ out-roll-Filter (Filter-F.Or fs)

open-Not : (f : Filter) → out-Filter (filter.Not f) ≡ Filter-F.Not f
open-Not f = ap (λ (f : Filter). out-Filter f) (sym (filter.rolls-Not f)) ∙ out-roll-Filter (Filter-F.Not f)

open-Equality : (a b : List ℕ) → out-Filter (filter.Equality a b) ≡ Filter-F.Equality a b
open-Equality a b = ap (λ (f : Filter). out-Filter f) (sym (filter.rolls-Equality a b)) ∙ out-roll-Filter (Filter-F.Equality a b)

open-AtLeast : (a b : List ℕ) → out-Filter (filter.AtLeast a b) ≡ Filter-F.AtLeast a b
open-AtLeast a b = ap (λ (f : Filter). out-Filter f) (sym (filter.rolls-AtLeast a b)) ∙ out-roll-Filter (Filter-F.AtLeast a b)

open-AtMost : (a b : List ℕ) → out-Filter (filter.AtMost a b) ≡ Filter-F.AtMost a b
open-AtMost a b = ap (λ (f : Filter). out-Filter f) (sym (filter.rolls-AtMost a b)) ∙ out-roll-Filter (Filter-F.AtMost a b)

open-Approximate : (a b : List ℕ) → out-Filter (filter.Approximate a b) ≡ Filter-F.Approximate a b
open-Approximate a b = ap (λ (f : Filter). out-Filter f) (sym (filter.rolls-Approximate a b)) ∙ out-roll-Filter (Filter-F.Approximate a b)

open-Present : (a : List ℕ) → out-Filter (filter.Present a) ≡ Filter-F.Present a
open-Present a = ap (λ (f : Filter). out-Filter f) (sym (filter.rolls-Present a)) ∙ out-roll-Filter (Filter-F.Present a)

open-Substrings : (a : List ℕ) (b : Option (List ℕ)) (c : List (List ℕ)) (d : Option (List ℕ)) → out-Filter (filter.Substrings a b c d) ≡ Filter-F.Substrings a b c d
open-Substrings a b c d = ap (λ (f : Filter). out-Filter f) (sym (filter.rolls-Substrings a b c d)) ∙ out-roll-Filter (Filter-F.Substrings a b c d)

open-Extensible : out-Filter filter.Extensible ≡ Filter-F.Extensible
open-Extensible = ap (λ (f : Filter). out-Filter f) (sym filter.rolls-Extensible) ∙ out-roll-Filter Filter-F.Extensible

last_filter : (t : ℕ) → is_filter_tag t ≡ true → (t == 0xa0) ≡ false → (t == 0xa1) ≡ false → (t == 0xa2) ≡ false → (t == 0xa3) ≡ false → (t == 0xa4) ≡ false → (t == 0xa5) ≡ false → (t == 0xa6) ≡ false → (t == 0x87) ≡ false → (t == 0xa8) ≡ false → t ≡ 0xa9
last_filter t y a b c d e f g h i = grind (arith, nat_tests)

simple_sound : (depth tag : ℕ) → is_filter_tag tag ≡ true → (tag == 0xa0) ≡ false → (tag == 0xa1) ≡ false → (tag == 0xa2) ≡ false → SoundInside (simple_inside tag) (FilterInside depth tag)
unfolding simple_inside
simple_sound depth tag y n0 n1 n2 w =
    either (tag == 0xa3) (λ z. rw (eqb-true tag 0xa3 z) (so (assertion_sound w) (λ a c. good (filter.Equality a.0 a.1) (covers_map w _ _ (λ body b bytes el. made depth bytes (filter.Equality a.0 a.1) (Filter-F.Equality a.0 a.1) (open-Equality a.0 a.1) (body, el, b)) c)))) (λ n3.
    either (tag == 0xa4) (λ z. rw (eqb-true tag 0xa4 z) (also (substrings_sound w) (λ f c. covers_map w _ _ (λ body b bytes el. subst (λ (g : Filter). IsFilter (suc depth) bytes g) (sym b.1) (made depth bytes (filter.Substrings b.0.0 b.0.1.0 b.0.1.1 b.0.1.2) (Filter-F.Substrings b.0.0 b.0.1.0 b.0.1.1 b.0.1.2) (open-Substrings b.0.0 b.0.1.0 b.0.1.1 b.0.1.2) (body, el, b.2))) c))) (λ n4.
    either (tag == 0xa5) (λ z. rw (eqb-true tag 0xa5 z) (so (assertion_sound w) (λ a c. good (filter.AtLeast a.0 a.1) (covers_map w _ _ (λ body b bytes el. made depth bytes (filter.AtLeast a.0 a.1) (Filter-F.AtLeast a.0 a.1) (open-AtLeast a.0 a.1) (body, el, b)) c)))) (λ n5.
    either (tag == 0xa6) (λ z. rw (eqb-true tag 0xa6 z) (so (assertion_sound w) (λ a c. good (filter.AtMost a.0 a.1) (covers_map w _ _ (λ body b bytes el. made depth bytes (filter.AtMost a.0 a.1) (Filter-F.AtMost a.0 a.1) (open-AtMost a.0 a.1) (body, el, b)) c)))) (λ n6.
    either (tag == 0x87) (λ z. rw (eqb-true tag 0x87 z) (so (octets_sound w) (λ x c. good (filter.Present x) (covers_map w _ _ (λ body b bytes el. made depth bytes (filter.Present x) (Filter-F.Present x) (open-Present x) (body, el, b)) c)))) (λ n7.
    either (tag == 0xa8) (λ z. rw (eqb-true tag 0xa8 z) (so (assertion_sound w) (λ a c. good (filter.Approximate a.0 a.1) (covers_map w _ _ (λ body b bytes el. made depth bytes (filter.Approximate a.0 a.1) (Filter-F.Approximate a.0 a.1) (open-Approximate a.0 a.1) (body, el, b)) c)))) (λ n8.
    so (octets_sound w) (λ x c. good filter.Extensible (covers_map w _ _ (λ body b bytes el. made depth bytes filter.Extensible Filter-F.Extensible open-Extensible (body, subst (λ (t : ℕ). IsElement bytes t body) (last_filter tag y n0 n1 n2 n3 n4 n5 n6 n7 n8) el, tt)) c))))))))

one_some : (P : List ℕ → Filter → Type 0) (bytes : List ℕ) (f : Filter-F Filter) → OneFilter P bytes f → 0 < length bytes
one_some P bytes (Filter-F.And fs) e = inside_some 0xa0 (Each P) bytes fs e
one_some P bytes (Filter-F.Or fs) e = inside_some 0xa1 (Each P) bytes fs e
one_some P bytes (Filter-F.Not f) e = inside_some 0xa2 P bytes f e
one_some P bytes (Filter-F.Equality name value) e = inside_some 0xa3 Assertion bytes (name, value) e
one_some P bytes (Filter-F.Substrings name first middle last) e = inside_some 0xa4 Substrings bytes (name, (first, middle, last)) e
one_some P bytes (Filter-F.AtLeast name value) e = inside_some 0xa5 Assertion bytes (name, value) e
one_some P bytes (Filter-F.AtMost name value) e = inside_some 0xa6 Assertion bytes (name, value) e
one_some P bytes (Filter-F.Present name) e = inside_some 0x87 Octets bytes name e
one_some P bytes (Filter-F.Approximate name value) e = inside_some 0xa8 Assertion bytes (name, value) e
one_some P bytes Filter-F.Extensible e = inside_some 0xa9 Whatever bytes no_value e

pub filter_some : (depth : ℕ) (bytes : List ℕ) (f : Filter) → IsFilter depth bytes f → 0 < length bytes
filter_some zero bytes f e = absurd e
filter_some (suc depth) bytes f e = one_some (IsFilter depth) bytes (out-Filter f) e

filter_inside_sound : (depth : ℕ) (inner : Window → Reading Filter) → Sound inner (IsFilter depth) → (tag : ℕ) → is_filter_tag tag ≡ true → SoundInside (filter_inside inner tag) (FilterInside depth tag)
unfolding filter_inside
filter_inside_sound depth inner h tag y w =
    either (tag == 0xa0) (λ z. rw (eqb-true tag 0xa0 z) (so (many_sound inner (IsFilter depth) h (filter_some depth) w) (λ fs c. good (filter.And fs) (covers_map w _ _ (λ body b bytes el. made depth bytes (filter.And fs) (Filter-F.And fs) (open-And fs) (body, el, b)) c)))) (λ n0.
    either (tag == 0xa1) (λ z. rw (eqb-true tag 0xa1 z) (so (many_sound inner (IsFilter depth) h (filter_some depth) w) (λ fs c. good (filter.Or fs) (covers_map w _ _ (λ body b bytes el. made depth bytes (filter.Or fs) (Filter-F.Or fs) (open-Or fs) (body, el, b)) c)))) (λ n1.
    either (tag == 0xa2) (λ z. rw (eqb-true tag 0xa2 z) (so (h w) (λ p r. so (ended_sound p.1) (λ u e. good (filter.Not p.0) (covers_map w _ _ (λ body b bytes el. made depth bytes (filter.Not p.0) (Filter-F.Not p.0) (open-Not p.0) (body, el, subst (λ (bs : List ℕ). IsFilter depth bs p.0) (whole_of body b.0 b.1 b.2 b.4) b.3)) (before w p r e)))))) (λ n2.
    simple_sound depth tag y n0 n1 n2 w)))
  where
    whole_of : (body first others : List ℕ) → body ≡ first ++ others → others ≡ [] → first ≡ body
    whole_of body first others e f = sym (e ∙ ap (λ (xs : List ℕ). first ++ xs) f ∙ append-nil first)

filter_sound : (depth : ℕ) → Sound (filter_at depth) (IsFilter depth)
unfolding filter_at
filter_sound zero w = ok_so (tag_here w) (λ t e. either (is_filter_tag t) (λ y. stopped _) (λ n. stopped _))
filter_sound (suc depth) w = ok_so (tag_here w) (λ t e. either (is_filter_tag t)
    (λ y. ok_so (open_here w) (λ o f. so (filter_inside_sound depth (filter_at depth) (filter_sound depth) t y o.0) (λ x c. good (x, o.1) (reads_map (Element t (FilterInside depth t)) (IsFilter (suc depth)) w (x, o.1) (λ front q. q.2 front q.1) (opened (FilterInside depth t) w t o x e f c)))))
    (λ n. stopped _))

search_sound : SoundInside search_inside (OpInside 0x63)
unfolding search_inside
search_sound w =
    so (text_sound w) (λ a s. so (element_sound 0x0a int Integer int_sound a.1) (λ a1 s1. so (element_sound 0x0a int Integer int_sound a1.1) (λ a2 s2. so (element_sound 0x02 count Count count_sound a2.1) (λ a3 s3. so (element_sound 0x02 count Count count_sound a3.1) (λ a4 s4.
    so (element_sound 0x01 boolean Boolean boolean_sound a4.1) (λ a5 s5. so (filter_sound 50 a5.1) (λ a6 s6. so (element_sound 0x30 (many text) (Each Text) texts_sound a6.1) (λ a7 s7. so (skip_sound a7.1) (λ u e.
    good (op.Search (record { base = a.0; scope = a1.0; deref = a2.0; size_limit = a3.0; time_limit = a4.0; types_only = a5.0; filter = a6.0; attrs = a7.0 }))
    (covers_map w _ _ (λ body b bytes el. (body, el, b)) (before w a s (before a.1 a1 s1 (before a1.1 a2 s2 (before a2.1 a3 s3 (before a3.1 a4 s4 (before a4.1 a5 s5 (before a5.1 a6 s6 (before a6.1 a7 s7 e))))))))))))))))))

-- ---- the message

last_op : (t : ℕ) → is_op_tag t ≡ true → (t == 0x60) ≡ false → (t == 0x42) ≡ false → (t == 0x63) ≡ false → (t == 0x66) ≡ false → (t == 0x68) ≡ false → (t == 0x4a) ≡ false → (t == 0x6c) ≡ false → (t == 0x6e) ≡ false → (t == 0x50) ≡ false → t ≡ 0x77
last_op t y a b c d e f g h i = grind (arith, nat_tests)

op_sound : (tag : ℕ) → is_op_tag tag ≡ true → SoundInside (op_inside tag) (OpInside tag)
unfolding op_inside
op_sound tag y w =
    either (tag == 0x60) (λ z. rw (eqb-true tag 0x60 z) (bind_sound w)) (λ n0.
    either (tag == 0x42) (λ z. rw (eqb-true tag 0x42 z) (unbind_sound w)) (λ n1.
    either (tag == 0x63) (λ z. rw (eqb-true tag 0x63 z) (search_sound w)) (λ n2.
    either (tag == 0x66) (λ z. rw (eqb-true tag 0x66 z) (modify_sound w)) (λ n3.
    either (tag == 0x68) (λ z. rw (eqb-true tag 0x68 z) (add_sound w)) (λ n4.
    either (tag == 0x4a) (λ z. rw (eqb-true tag 0x4a z) (delete_sound w)) (λ n5.
    either (tag == 0x6c) (λ z. rw (eqb-true tag 0x6c z) (rename_sound w)) (λ n6.
    either (tag == 0x6e) (λ z. rw (eqb-true tag 0x6e z) (compare_sound w)) (λ n7.
    either (tag == 0x50) (λ z. rw (eqb-true tag 0x50 z) (abandon_sound w)) (λ n8.
    rw (last_op tag y n0 n1 n2 n3 n4 n5 n6 n7 n8) (extended_sound w))))))))))

operation_sound : Sound operation IsOp
unfolding operation
operation_sound w = ok_so (tag_here w) (λ t e. ok_so (cond (is_op_tag t) (open_here w) (Err (Fault w.at why.Op))) (λ o f.
    let k = chosen_true (is_op_tag t) (open_here w) (Fault w.at why.Op) o f in
    so (op_sound t k.0 o.0) (λ x c. good (x, o.1) (reads_map (Element t (OpInside t)) IsOp w (x, o.1) (λ front q. q.2 front q.1) (opened (OpInside t) w t o x e k.1 c)))))

abbrev pub ControlContent : List ℕ → Control → Type 0
ControlContent body c = (critical : Option Bool) × (c.critical ≡ unwrap_or critical false) × Then Text c.oid (ThenMaybe 0x01 Boolean critical (ThenMaybe 0x04 Octets c.value Unknown)) body

control_inside_sound : SoundInside control_inside ControlContent
unfolding control_inside
control_inside_sound w = so (text_sound w) (λ a s. so (optional_sound 0x01 boolean Boolean boolean_sound a.1) (λ c t. so (optional_sound 0x04 octets Octets octets_sound c.1) (λ i r. so (skip_sound i.1) (λ u e.
    good (record { oid = a.0; critical = unwrap_or c.0 false; value = i.0 }) (let b = before w a s (before_maybe a.1 c t (before_maybe c.1 i r e)) in record { all = b.all; by = (c.0, refl, b.by) })))))

controls_sound : SoundInside (many control) (Each IsControl)
controls_sound = many_sound control IsControl (element_sound 0x30 control_inside ControlContent control_inside_sound) (λ front x p. inside_some 0x30 ControlContent front x p)

abbrev pub MessageContent : List ℕ → Request → Type 0
MessageContent body r = (controls : Option (List Control)) × (r.controls ≡ unwrap_or controls []) × Then (Element 0x02 MessageId) r.id (Then IsOp r.op (ThenMaybe 0xa0 (Each IsControl) controls Unknown)) body

request_inside_sound : SoundInside request_inside MessageContent
unfolding request_inside
request_inside_sound w = so (element_sound 0x02 message_id MessageId message_id_sound w) (λ a s. so (operation_sound a.1) (λ c t. so (optional_sound 0xa0 (many control) (Each IsControl) controls_sound c.1) (λ i r. so (skip_sound i.1) (λ u e.
    good (record { id = a.0; op = c.0; controls = unwrap_or i.0 [] }) (let b = before w a s (before a.1 c t (before_maybe c.1 i r e)) in record { all = b.all; by = (i.0, refl, b.by) })))))

outermost_ok : {A : Type 0} (r : Result A Stop) (x : A) → outermost r ≡ Ok x → r ≡ Ok x
outermost_ok (Ok y) x e = e
outermost_ok (Err More) x e = absurd cc
outermost_ok (Err (Fault p (why.Ber ber_why.TooLarge))) x e = absurd cc
outermost_ok (Err (Fault p (why.Ber ber_why.LongTag))) x e = absurd cc
outermost_ok (Err (Fault p (why.Ber ber_why.Indefinite))) x e = absurd cc
outermost_ok (Err (Fault p (why.Ber ber_why.LengthForm))) x e = absurd cc
outermost_ok (Err (Fault p why.Id)) x e = absurd cc
outermost_ok (Err (Fault p why.Op)) x e = absurd cc
outermost_ok (Err (Fault p why.Shape)) x e = absurd cc
outermost_ok (Err (Fault p why.TooLarge)) x e = absurd cc
outermost_ok (Err (Fault p why.Depth)) x e = absurd cc

pub request_sound : (limit : ℕ) (bytes : List ℕ) → Good (λ p. (p.1 ≤ length bytes) × (p.1 ≤ limit) × Spells (take p.1 bytes) p.0) (request_at limit bytes)
unfolding request_at
request_sound limit bytes =
    let w : Window = record { start = 0; at = 0; left = limit; bytes = bytes } in
    ok_so (outermost (open_as 0x30 w)) (λ o e.
    let k = as_ok 0x30 w o (outermost_ok (open_as 0x30 w) o e) in
    so (request_inside_sound o.0) (λ x c. good (x, o.1.at) (
    let r = opened MessageContent w 0x30 o x k.0 k.1 c in
    let left = r.left in
    let at = r.at in
    let n_is : o.1.at ≡ length r.front = omega arith in
    let len : length bytes ≡ length r.front + length o.1.bytes = ap (λ (xs : List ℕ). length xs) r.parts ∙ length-append r.front o.1.bytes in
    let is : take o.1.at bytes ≡ r.front = ap (λ (n : ℕ). take n bytes) n_is ∙ ap (λ (xs : List ℕ). take (length r.front) xs) r.parts ∙ take_at r.front o.1.bytes (length r.front) refl in
    (omega arith, omega arith, subst (λ (bs : List ℕ). Spells bs x) (sym is) (let q = r.spelled in (q.0, q.1, q.2))))))

-- what the reader in code gave, where it gave a request
pub found_by : (bytes : List ℕ) (r : Result (Request × ℕ) ReadFault) → Gives (λ p. p) r (request_at 2097152 bytes) → IfOk r (λ p. (p.1 ≤ length bytes) × (p.1 ≤ 2097152) × Spells (take p.1 bytes) p.0)
found_by bytes (Ok p) g = value (request_sound 2097152 bytes) p g
found_by bytes (Err e) g = tt

pub spelled_by : (bytes : List ℕ) (r : Result (Request × ℕ) ReadFault) → Gives (λ p. p) r (request_at 2097152 bytes) → IfOk r (λ p. Spells (take p.1 bytes) p.0)
spelled_by bytes (Ok p) g = (let k = found_by bytes (Ok p) g in k.2)
spelled_by bytes (Err e) g = tt

pub within_by : (bytes : List ℕ) (r : Result (Request × ℕ) ReadFault) → Gives (λ p. p) r (request_at 2097152 bytes) → IfOk r (λ p. (p.1 ≤ length bytes) × (p.1 ≤ 2097152))
within_by bytes (Ok p) g = (let k = found_by bytes (Ok p) g in (k.0, k.1))
within_by bytes (Err e) g = tt
