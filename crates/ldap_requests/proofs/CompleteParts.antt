-- What is spelled is read: the parts of operations, and operations without a filter.
use Rattle.std.proofs.Common.{◌≡◌, ℕ, ◌≤◌, ℤ, pos, Bool, true, false, cond, ltb, List, Option, Some, None, refl, sym, ap, subst, arith}
use Rattle.std.proofs.lemmas.Bool.{le-ltb}
use Rattle.std.specs.Prelude.{◌==◌, ◌||◌}
use Rattle.ldap_types.specs.declared.request.Op.TheVariants as op
use Rattle.ldap_types.specs.declared.request.BindRequest.{BindRequest}
use Rattle.ldap_types.specs.declared.request.Auth.TheVariants.{Simple, Sasl}
use Rattle.ldap_types.specs.declared.request.RawAttr.{RawAttr}
use Rattle.ldap_types.specs.declared.request.RawMod.{RawMod}
use Rattle.ber_core.specs.declared.fault.NotLdapWhy.{NotLdapWhy}
use Rattle.ber_core.specs.declared.fault.NotLdapWhy.TheVariants as why
use Rattle.ber_core.specs.Window.{Window, tag_here, octets, int, boolean, many, in_range, ranged}
use Rattle.ldap_requests.specs.Grammar.{text, count, message_id, attribute_inside, attribute, assertion, sasl, auth, bind_inside, unbind_inside, delete_inside, abandon_inside, add_inside, modification_inside, modification, modify_inside, rename_inside, compare_inside, extended_inside}
use Rattle.ldap_requests.specs.Spelling.{Count, MessageId, Text, Attribute, Assertion, SaslCredentials, Authentication, Bind, Modification}
use Rattle.ber_core.specs.Spelling.{no_value, Element, Then, ThenMaybe, Nothing, Each, Unknown, Octets, Integer, Boolean}
use Rattle.ber_core.proofs.Sound.{element_some}
use Rattle.ber_core.proofs.Complete.{Gets, gets, go_on, every, at_ok, chosen, Is, Holds, cut, Full, FullInside, at_end, stands, element_full, octets_full, int_full, boolean_full, ended_full, skip_full}
use Rattle.ber_core.proofs.CompleteMany.{many_full, starts_nothing, starts_unknown, optional_full}

-- ---- leaves

pub text_full : Full text Text
text_full = element_full 0x04 octets Octets octets_full

pub texts_full : FullInside (many text) (Each Text)
texts_full = many_full text Text text_full (λ front x p. element_some 0x04 p.0 front p.1)

ranged_full : (y : NotLdapWhy) (at least : ℕ) (z : ℤ) (n : ℕ) → z ≡ pos n → least ≤ n → n ≤ 2147483647 → Gets (Is n) (ranged y at (in_range least z))
ranged_full y at least z n e low high =
    subst (λ (i : ℤ). Gets (Is n) (ranged y at (in_range least i))) (sym e)
    (subst (λ (o : Option ℕ). Gets (Is n) (ranged y at o)) (sym (in_tests (ltb n least) (ltb 2147483647 n) (le-ltb n least low) (le-ltb 2147483647 n high))) (gets n refl))
  where
    in_tests : (a b : Bool) → a ≡ false → b ≡ false → cond (a || b) None (Some n) ≡ Some n
    in_tests false false p q = refl
    in_tests true b p q = absurd cc
    in_tests false true p q = absurd cc

pub count_full : FullInside count Count
unfolding count
count_full w body n h e = go_on (int_full w body (pos n) h e.0) (λ z is. ranged_full why.Shape w.start 0 z n is (omega arith) e.1)

pub message_id_full : FullInside message_id MessageId
unfolding message_id
message_id_full w body n h e = go_on (int_full w body (pos n) h e.0) (λ z is. ranged_full why.Id w.start 1 z n is e.1 e.2)

-- ---- parts that several operations have

abbrev pub AttributeContent : List ℕ → RawAttr → Type 0
AttributeContent body a = Then Text a.name (Then (Element 0x31 (Each Text)) a.vals Nothing) body

attribute_inside_full : FullInside attribute_inside AttributeContent
unfolding attribute_inside
attribute_inside_full w body a h t =
    let u = t.4 in
    go_on (text_full w t.0 t.1 a.name (cut w body _ h t.2) t.3) (λ p l.
    go_on (element_full 0x31 (many text) (Each Text) texts_full p.1 u.0 u.1 a.vals (cut p.1 t.1 _ l.1 u.2) u.3) (λ q m.
    go_on (ended_full q.1 u.1 m.1 u.4) (λ x y. gets (record { name = p.0; vals = q.0 }) (λ i. record { name = l.0 i; vals = m.0 i }))))

pub attribute_full : Full attribute Attribute
attribute_full = element_full 0x30 attribute_inside AttributeContent attribute_inside_full

attributes_full : FullInside (many attribute) (Each Attribute)
attributes_full = many_full attribute Attribute attribute_full (λ front x p. element_some 0x30 p.0 front p.1)

pub assertion_full : FullInside assertion Assertion
unfolding assertion
assertion_full w body a h t =
    let u = t.4 in
    go_on (text_full w t.0 t.1 a.0 (cut w body _ h t.2) t.3) (λ p l.
    go_on (text_full p.1 u.0 u.1 a.1 (cut p.1 t.1 _ l.1 u.2) u.3) (λ q m.
    go_on (ended_full q.1 u.1 m.1 u.4) (λ x y. gets (p.0, q.0) (λ i. (l.0 i, m.0 i)))))

sasl_full : FullInside sasl SaslCredentials
unfolding sasl
sasl_full w body a h s =
    let t = s.2 in
    let u = t.4 in
    go_on (text_full w t.0 t.1 s.0 (cut w body _ h t.2) t.3) (λ p l.
    go_on (optional_full 0x04 octets Octets octets_full p.1 u.0 u.1 s.1 (starts_nothing u.1 u.4) (cut p.1 t.1 _ l.1 u.2) u.3) (λ q m.
    every (ended_full q.1 u.1 m.1 u.4) (λ x y. refl)))

auth_full : Full auth Authentication
unfolding auth
auth_full w front others (Simple password) h e =
    let k = stands w 0x80 front e.0 others h e.1 in
    at_ok _ (tag_here w) 0x80 k.0 (go_on (element_full 0x80 octets Octets octets_full w front others password h e) (λ p l. gets (Simple p.0, p.1) (ap Simple l.0, l.1)))
auth_full w front others Sasl h e =
    let k = stands w 0xa3 front e.0 others h e.1 in
    at_ok _ (tag_here w) 0xa3 k.0 (go_on (element_full 0xa3 sasl SaslCredentials sasl_full w front others no_value h e) (λ p l. gets (Sasl, p.1) (refl, l.1)))

-- ---- operations, by what is inside them

pub bind_full : (w : Window) (body : List ℕ) (r : BindRequest) → Holds w body → Bind body r → Gets (Is (op.Bind r)) (bind_inside w)
unfolding bind_inside
bind_full w body r h t =
    let u = t.4 in
    let v = u.4 in
    go_on (element_full 0x02 int Integer int_full w t.0 t.1 r.version (cut w body _ h t.2) t.3) (λ p l.
    go_on (text_full p.1 u.0 u.1 r.name (cut p.1 t.1 _ l.1 u.2) u.3) (λ q m.
    go_on (auth_full q.1 v.0 v.1 r.auth (cut q.1 u.1 _ m.1 v.2) v.3) (λ s n.
    go_on (skip_full s.1 v.1 n.1 v.4) (λ x y.
    gets (op.Bind (record { version = p.0; name = q.0; auth = s.0 })) (λ i. op.Bind (record { version = l.0 i; name = m.0 i; auth = n.0 i }))))))

pub unbind_full : (w : Window) (body : List ℕ) → Holds w body → Nothing body → Gets (Is op.Unbind) (unbind_inside w)
unfolding unbind_inside
unbind_full w body h e = chosen _ (w.left == 0) (at_end w body h e) (gets op.Unbind refl)

pub delete_full : (w : Window) (body object : List ℕ) → Holds w body → Octets body object → Gets (Is (op.Delete object)) (delete_inside w)
unfolding delete_inside
delete_full w body object h e = go_on (octets_full w body object h e) (λ x is. gets (op.Delete x) (ap op.Delete is))

pub abandon_full : (w : Window) (body : List ℕ) (id : ℕ) → Holds w body → Count body id → Gets (Is (op.Abandon id)) (abandon_inside w)
unfolding abandon_inside
abandon_full w body id h e = go_on (count_full w body id h e) (λ x is. gets (op.Abandon x) (ap op.Abandon is))

pub add_full : (w : Window) (body object : List ℕ) (attrs : List RawAttr) → Holds w body → Then Text object (Then (Element 0x30 (Each Attribute)) attrs Unknown) body → Gets (Is (op.Add object attrs)) (add_inside w)
unfolding add_inside
add_full w body object attrs h t =
    let u = t.4 in
    go_on (text_full w t.0 t.1 object (cut w body _ h t.2) t.3) (λ p l.
    go_on (element_full 0x30 (many attribute) (Each Attribute) attributes_full p.1 u.0 u.1 attrs (cut p.1 t.1 _ l.1 u.2) u.3) (λ q m.
    go_on (skip_full q.1 u.1 m.1 u.4) (λ x y. gets (op.Add p.0 q.0) (λ i. op.Add (l.0 i) (m.0 i)))))

abbrev ModificationContent : List ℕ → RawMod → Type 0
ModificationContent body m = Then (Element 0x0a Integer) m.kind (Then Attribute (record { name = m.name; vals = m.vals }) Nothing) body

modification_inside_full : FullInside modification_inside ModificationContent
unfolding modification_inside
modification_inside_full w body r h t =
    let u = t.4 in
    go_on (element_full 0x0a int Integer int_full w t.0 t.1 r.kind (cut w body _ h t.2) t.3) (λ p l.
    go_on (attribute_full p.1 u.0 u.1 (record { name = r.name; vals = r.vals }) (cut p.1 t.1 _ l.1 u.2) u.3) (λ q m.
    go_on (ended_full q.1 u.1 m.1 u.4) (λ x y. gets (record { kind = p.0; name = q.0.name; vals = q.0.vals }) (λ i. record { kind = l.0 i; name = (m.0 i).name; vals = (m.0 i).vals }))))

modifications_full : FullInside (many modification) (Each Modification)
modifications_full = many_full modification Modification (element_full 0x30 modification_inside ModificationContent modification_inside_full) (λ front x p. element_some 0x30 p.0 front p.1)

pub modify_full : (w : Window) (body object : List ℕ) (mods : List RawMod) → Holds w body → Then Text object (Then (Element 0x30 (Each Modification)) mods Unknown) body → Gets (Is (op.Modify object mods)) (modify_inside w)
unfolding modify_inside
modify_full w body object mods h t =
    let u = t.4 in
    go_on (text_full w t.0 t.1 object (cut w body _ h t.2) t.3) (λ p l.
    go_on (element_full 0x30 (many modification) (Each Modification) modifications_full p.1 u.0 u.1 mods (cut p.1 t.1 _ l.1 u.2) u.3) (λ q m.
    go_on (skip_full q.1 u.1 m.1 u.4) (λ x y. gets (op.Modify p.0 q.0) (λ i. op.Modify (l.0 i) (m.0 i)))))

pub rename_full : (w : Window) (body object new_rdn : List ℕ) (delete_old : Bool) (new_superior : Option (List ℕ)) → Holds w body
    → Then Text object (Then Text new_rdn (Then (Element 0x01 Boolean) delete_old (ThenMaybe 0x80 Octets new_superior Unknown))) body → Gets (Is (op.Rename object new_rdn delete_old new_superior)) (rename_inside w)
unfolding rename_inside
rename_full w body object new_rdn delete_old new_superior h t =
    let u = t.4 in
    let v = u.4 in
    let k = v.4 in
    go_on (text_full w t.0 t.1 object (cut w body _ h t.2) t.3) (λ p l.
    go_on (text_full p.1 u.0 u.1 new_rdn (cut p.1 t.1 _ l.1 u.2) u.3) (λ q m.
    go_on (element_full 0x01 boolean Boolean boolean_full q.1 v.0 v.1 delete_old (cut q.1 u.1 _ m.1 v.2) v.3) (λ r n.
    go_on (optional_full 0x80 octets Octets octets_full r.1 k.0 k.1 new_superior (starts_unknown k.1 k.4) (cut r.1 v.1 _ n.1 k.2) k.3) (λ s o.
    go_on (skip_full s.1 k.1 o.1 k.4) (λ x y.
    gets (op.Rename p.0 q.0 r.0 s.0) (λ i. op.Rename (l.0 i) (m.0 i) (n.0 i) (o.0 i)))))))

pub compare_full : (w : Window) (body object name value : List ℕ) → Holds w body → Then Text object (Then (Element 0x30 Assertion) (name, value) Unknown) body → Gets (Is (op.Compare object name value)) (compare_inside w)
unfolding compare_inside
compare_full w body object name value h t =
    let u = t.4 in
    go_on (text_full w t.0 t.1 object (cut w body _ h t.2) t.3) (λ p l.
    go_on (element_full 0x30 assertion Assertion assertion_full p.1 u.0 u.1 (name, value) (cut p.1 t.1 _ l.1 u.2) u.3) (λ q m.
    go_on (skip_full q.1 u.1 m.1 u.4) (λ x y. gets (op.Compare p.0 q.0.0 q.0.1) (λ i. op.Compare (l.0 i) (m.0 i).0 (m.0 i).1))))

pub extended_full : (w : Window) (body oid : List ℕ) (value : Option (List ℕ)) → Holds w body → Then (Element 0x80 Octets) oid (ThenMaybe 0x81 Octets value Unknown) body → Gets (Is (op.Extended oid value)) (extended_inside w)
unfolding extended_inside
extended_full w body oid value h t =
    let u = t.4 in
    go_on (element_full 0x80 octets Octets octets_full w t.0 t.1 oid (cut w body _ h t.2) t.3) (λ p l.
    go_on (optional_full 0x81 octets Octets octets_full p.1 u.0 u.1 value (starts_unknown u.1 u.4) (cut p.1 t.1 _ l.1 u.2) u.3) (λ q m.
    go_on (skip_full q.1 u.1 m.1 u.4) (λ x y. gets (op.Extended p.0 q.0) (λ i. op.Extended (l.0 i) (m.0 i)))))
