-- What is spelled is read: searches, operations and whole messages; and what follows for the spellings.
use Rattle.std.proofs.Common.{◌≡◌, ℕ, ◌≤◌, Bool, true, false, cond, List, [], ◌∷◌, ◌++◌, length, Option, Result, Ok, Err, refl, sym, ap, subst, ◌∙◌, arith, length-append, inl, inr, ◌⊎◌}
use Rattle.std.proofs.lemmas.List.{append-nil}
use Rattle.std.specs.Prelude.{◌==◌, unwrap_or}
use Rattle.repl_data.proofs.Loops.{empty_rest}
use Rattle.ber_core.specs.Element.{IsElement}
use Rattle.ldap_types.specs.declared.request.Request.{Request}
use Rattle.ldap_types.specs.declared.request.Control.{Control}
use Rattle.ldap_types.specs.declared.request.Op.{Op}
use Rattle.ldap_types.specs.declared.request.Op.TheVariants as op
use Rattle.ldap_types.specs.declared.request.SearchRequest.{SearchRequest}
use Rattle.ber_core.specs.declared.fault.NotLdapWhy.{NotLdapWhy}
use Rattle.ber_core.specs.declared.fault.NotLdapWhy.TheVariants as why
use Rattle.ber_core.specs.declared.fault.ReadFault.{ReadFault}
use Rattle.ber_core.specs.declared.fault.ReadFault.TheVariants as fault
use Rattle.ber_core.specs.Cursor.{Gives}
use Rattle.ldap_requests.specs.Laws.{OneRequest, NoSpellingIsPrefix, HasNoRequest, BeginsNoRequest}
use Rattle.ber_core.specs.Window.{Stop, Fault, More, Window, ◌>>=◌, tag_here, open_here, open_as, octets, int, boolean, refused, many, outermost}
use Rattle.ldap_requests.specs.Grammar.{text, count, message_id, search_inside, is_op_tag, op_inside, operation, control_inside, control, request_inside, request_at}
use Rattle.ldap_requests.specs.Spelling.{Count, MessageId, Text, Search, IsOp, IsControl, Spells}
use Rattle.ber_core.specs.Spelling.{Each, Unknown, Octets, Integer, Boolean}
use Rattle.ber_core.proofs.Sound.{element_some}
use Rattle.ldap_requests.proofs.SoundMessage.{ControlContent, MessageContent}
use Rattle.ber_core.proofs.Complete.{Gets, gets, go_on, at_ok, Is, value_is, Holds, cut, Leaves, Full, FullInside, stands, opens, element_full, octets_full, int_full, boolean_full, skip_full}
use Rattle.ber_core.proofs.CompleteMany.{many_full, starts_unknown, starts_maybe, optional_full}
use Rattle.ldap_requests.proofs.CompleteParts.{text_full, texts_full, count_full, message_id_full, bind_full, unbind_full, delete_full, abandon_full, add_full, modify_full, rename_full, compare_full, extended_full}
use Rattle.ldap_requests.proofs.CompleteFilter.{filter_full}
use Rattle.ldap_requests.proofs.StableMessage.{fault_once, out}

search_full : (w : Window) (body : List ℕ) (r : SearchRequest) → Holds w body → Search body r → Gets (Is (op.Search r)) (search_inside w)
unfolding search_inside
search_full w body r h t =
    let t1 = t.4 in
    let t2 = t1.4 in
    let t3 = t2.4 in
    let t4 = t3.4 in
    let t5 = t4.4 in
    let t6 = t5.4 in
    let t7 = t6.4 in
    go_on (text_full w t.0 t.1 r.base (cut w body _ h t.2) t.3) (λ a l.
    go_on (element_full 0x0a int Integer int_full a.1 t1.0 t1.1 r.scope (cut a.1 t.1 _ l.1 t1.2) t1.3) (λ a1 l1.
    go_on (element_full 0x0a int Integer int_full a1.1 t2.0 t2.1 r.deref (cut a1.1 t1.1 _ l1.1 t2.2) t2.3) (λ a2 l2.
    go_on (element_full 0x02 count Count count_full a2.1 t3.0 t3.1 r.size_limit (cut a2.1 t2.1 _ l2.1 t3.2) t3.3) (λ a3 l3.
    go_on (element_full 0x02 count Count count_full a3.1 t4.0 t4.1 r.time_limit (cut a3.1 t3.1 _ l3.1 t4.2) t4.3) (λ a4 l4.
    go_on (element_full 0x01 boolean Boolean boolean_full a4.1 t5.0 t5.1 r.types_only (cut a4.1 t4.1 _ l4.1 t5.2) t5.3) (λ a5 l5.
    go_on (filter_full 50 a5.1 t6.0 t6.1 r.filter (cut a5.1 t5.1 _ l5.1 t6.2) t6.3) (λ a6 l6.
    go_on (element_full 0x30 (many text) (Each Text) texts_full a6.1 t7.0 t7.1 r.attrs (cut a6.1 t6.1 _ l6.1 t7.2) t7.3) (λ a7 l7.
    go_on (skip_full a7.1 t7.1 l7.1 t7.4) (λ x y.
    gets (op.Search (record { base = a.0; scope = a1.0; deref = a2.0; size_limit = a3.0; time_limit = a4.0; types_only = a5.0; filter = a6.0; attrs = a7.0 }))
    (λ i. op.Search (record { base = l.0 i; scope = l1.0 i; deref = l2.0 i; size_limit = l3.0 i; time_limit = l4.0 i; types_only = l5.0 i; filter = l6.0 i; attrs = l7.0 i })))))))))))

-- ---- operations

-- an operation with this tag is read where its content is
by_tag : (tag : ℕ) → is_op_tag tag ≡ true → (w : Window) (front others body : List ℕ) (o : Op) → Holds w (front ++ others) → IsElement front tag body
    → ((v : Window) → Holds v body → Gets (Is o) (op_inside tag v)) → Gets (Leaves o others) (operation w)
unfolding operation
by_tag tag known w front others body o h el content =
    let k = stands w tag front body others h el in
    let p = k.1.0 in
    let open_is : cond (is_op_tag tag) (open_here w) (Err (Fault w.at why.Op)) ≡ Ok p = ap (λ (b : Bool). cond b (open_here w) (Err (Fault w.at why.Op))) known ∙ k.1.1 in
    at_ok _ (tag_here w) tag k.0 (at_ok _ (cond (is_op_tag tag) (open_here w) (Err (Fault w.at why.Op))) p open_is (go_on (content p.0 k.1.2.0) (λ x is. gets (x, p.1) (is, k.1.2.1))))

operation_full : Full operation IsOp
unfolding op_inside
operation_full w front others (op.Bind r) h e = by_tag 0x60 refl w front others e.0 (op.Bind r) h e.1 (λ v g. bind_full v e.0 r g e.2)
operation_full w front others op.Unbind h e = by_tag 0x42 refl w front others e.0 op.Unbind h e.1 (λ v g. unbind_full v e.0 g e.2)
operation_full w front others (op.Search r) h e = by_tag 0x63 refl w front others e.0 (op.Search r) h e.1 (λ v g. search_full v e.0 r g e.2)
operation_full w front others (op.Modify object mods) h e = by_tag 0x66 refl w front others e.0 (op.Modify object mods) h e.1 (λ v g. modify_full v e.0 object mods g e.2)
operation_full w front others (op.Add object attrs) h e = by_tag 0x68 refl w front others e.0 (op.Add object attrs) h e.1 (λ v g. add_full v e.0 object attrs g e.2)
operation_full w front others (op.Delete object) h e = by_tag 0x4a refl w front others e.0 (op.Delete object) h e.1 (λ v g. delete_full v e.0 object g e.2)
operation_full w front others (op.Rename object new_rdn delete_old new_superior) h e =
    by_tag 0x6c refl w front others e.0 (op.Rename object new_rdn delete_old new_superior) h e.1 (λ v g. rename_full v e.0 object new_rdn delete_old new_superior g e.2)
operation_full w front others (op.Compare object name value) h e = by_tag 0x6e refl w front others e.0 (op.Compare object name value) h e.1 (λ v g. compare_full v e.0 object name value g e.2)
operation_full w front others (op.Abandon id) h e = by_tag 0x50 refl w front others e.0 (op.Abandon id) h e.1 (λ v g. abandon_full v e.0 id g e.2)
operation_full w front others (op.Extended oid value) h e = by_tag 0x77 refl w front others e.0 (op.Extended oid value) h e.1 (λ v g. extended_full v e.0 oid value g e.2)

-- ---- the message

control_inside_full : FullInside control_inside ControlContent
unfolding control_inside
control_inside_full w body c h s =
    let t = s.2 in
    let u = t.4 in
    let v = u.4 in
    go_on (text_full w t.0 t.1 c.oid (cut w body _ h t.2) t.3) (λ p l.
    go_on (optional_full 0x01 boolean Boolean boolean_full p.1 u.0 u.1 s.0 (starts_maybe 0x04 Octets c.value Unknown starts_unknown u.1 v) (cut p.1 t.1 _ l.1 u.2) u.3) (λ q m.
    go_on (optional_full 0x04 octets Octets octets_full q.1 v.0 v.1 c.value (starts_unknown v.1 v.4) (cut q.1 u.1 _ m.1 v.2) v.3) (λ r n.
    go_on (skip_full r.1 v.1 n.1 v.4) (λ x y.
    let critical : unwrap_or q.0 false ≡ c.critical = ap (λ (o : Option Bool). unwrap_or o false) m.0 ∙ sym s.1 in
    gets (record { oid = p.0; critical = unwrap_or q.0 false; value = r.0 }) (λ i. record { oid = l.0 i; critical = critical i; value = n.0 i })))))

controls_full : FullInside (many control) (Each IsControl)
controls_full = many_full control IsControl (element_full 0x30 control_inside ControlContent control_inside_full) (λ front x p. element_some 0x30 p.0 front p.1)

request_inside_full : FullInside request_inside MessageContent
unfolding request_inside
request_inside_full w body r h s =
    let t = s.2 in
    let u = t.4 in
    let v = u.4 in
    go_on (element_full 0x02 message_id MessageId message_id_full w t.0 t.1 r.id (cut w body _ h t.2) t.3) (λ p l.
    go_on (operation_full p.1 u.0 u.1 r.op (cut p.1 t.1 _ l.1 u.2) u.3) (λ q m.
    go_on (optional_full 0xa0 (many control) (Each IsControl) controls_full q.1 v.0 v.1 s.0 (starts_unknown v.1 v.4) (cut q.1 u.1 _ m.1 v.2) v.3) (λ k n.
    go_on (skip_full k.1 v.1 n.1 v.4) (λ x y.
    let controls : unwrap_or k.0 [] ≡ r.controls = ap (λ (o : Option (List Control)). unwrap_or o []) n.0 ∙ sym s.1 in
    gets (record { id = p.0; op = q.0; controls = unwrap_or k.0 [] }) (λ i. record { id = l.0 i; op = m.0 i; controls = controls i })))))

pub spelled_is_read : (limit : ℕ) (bytes rest : List ℕ) (r : Request) → Spells bytes r → length bytes ≤ limit → request_at limit (bytes ++ rest) ≡ Ok (r, length bytes)
unfolding request_at open_as
spelled_is_read limit bytes rest r s le =
    let w : Window = record { start = 0; at = 0; left = limit; bytes = bytes ++ rest } in
    let k = opens w 0x30 bytes s.0 rest refl le s.1 in
    let o = k.halves in
    let tested : open_as 0x30 w ≡ Ok o =
    ap (λ (r : Result ℕ Stop). r >>= λ t. cond (t == 0x30) (open_here w) (refused w)) k.tag_is ∙ k.open_is in
    let at : o.1.at ≡ length bytes = k.at_is ∙ omega arith in
    value_is (r, length bytes) (request_at limit (bytes ++ rest))
    (at_ok _ (outermost (open_as 0x30 w)) o (ap (λ (q : Result (Window × Window) Stop). outermost q) tested) (go_on (request_inside_full o.0 s.0 r k.content s.2) (λ x is. gets (x, o.1.at) (λ i. (is i, at i)))))

-- ---- what follows for the spellings

pub one_request : OneRequest
one_request bytes r s e f =
    let limit = length bytes in
    let p = out (r, limit) (s, limit) (sym (spelled_is_read limit bytes [] r e (omega arith)) ∙ spelled_is_read limit bytes [] s f (omega arith)) in
    ap (λ (q : Request × ℕ). q.0) p

pub no_spelling_is_prefix : NoSpellingIsPrefix
no_spelling_is_prefix bytes more r s e f =
    let limit = length (bytes ++ more) in
    let len = length-append bytes more in
    let whole : request_at limit (bytes ++ more) ≡ Ok (s, limit) = ap (request_at limit) (sym (append-nil (bytes ++ more))) ∙ spelled_is_read limit (bytes ++ more) [] s f (omega arith) in
    let p = out (r, length bytes) (s, limit) (sym (spelled_is_read limit bytes more r e (omega arith)) ∙ whole) in
    (empty_rest bytes more (ap (λ (q : Request × ℕ). q.1) p), ap (λ (q : Request × ℕ). q.0) p)

-- ---- what the reader in code gives for a spelling

stops : (s : Stop) (x : Request × ℕ) → (let a : Result (Request × ℕ) Stop = Err s in a) ≡ Ok x → ⊥
stops s x e = cc

-- it is read, unless memory ran out
abbrev pub IsRead : Request → ℕ → Result (Request × ℕ) ReadFault → Type 0
IsRead r n read = (read ≡ Ok (r, n)) ⊎ (read ≡ Err fault.NoMemory)

by_answer : (r : Request) (n : ℕ) (read : Result (Request × ℕ) ReadFault) (at : Result (Request × ℕ) Stop) → at ≡ Ok (r, n) → Gives (λ p. p) read at → IsRead r n read
by_answer r n (Ok p) at e g = inl (ap (λ (q : Request × ℕ). Ok q) (out p (r, n) (sym g ∙ e)))
by_answer r n (Err fault.NoMemory) at e g = inr refl
by_answer r n (Err fault.More) at e g = absurd (stops More (r, n) (sym g ∙ e))
by_answer r n (Err (fault.NotLdap place w)) at e g = absurd (stops (Fault place w) (r, n) (sym g ∙ e))

pub only_by : (input : List ℕ) (read : Result (Request × ℕ) ReadFault) → Gives (λ p. p) read (request_at 2097152 input)
    → (bytes rest : List ℕ) (r : Request) → Spells bytes r → length bytes ≤ 2097152 → input ≡ bytes ++ rest → IsRead r (length bytes) read
only_by input read g bytes rest r s le is = by_answer r (length bytes) read (request_at 2097152 input) (ap (request_at 2097152) is ∙ spelled_is_read 2097152 bytes rest r s le) g

-- what was answered is what reading answers
same_answer : (x y : Result (Request × ℕ) ReadFault) (at : Result (Request × ℕ) Stop) → x ≡ y → Gives (λ p. p) x at → Gives (λ p. p) y at
same_answer x y at e g = subst (λ (z : Result (Request × ℕ) ReadFault). Gives (λ p. p) z at) e g

pub more_by : (input : List ℕ) (read : Result (Request × ℕ) ReadFault) → Gives (λ p. p) read (request_at 2097152 input) → read ≡ Err fault.More → HasNoRequest 2097152 input
more_by input read g is whole rest r s le e =
    let stopped = same_answer read (Err fault.More) (request_at 2097152 input) is g in
    stops More (r, length whole) (sym stopped ∙ ap (request_at 2097152) e ∙ spelled_is_read 2097152 whole rest r s le)

pub bad_by : (input : List ℕ) (read : Result (Request × ℕ) ReadFault) → Gives (λ p. p) read (request_at 2097152 input) → (place : ℕ) (w : NotLdapWhy) → read ≡ Err (fault.NotLdap place w) → BeginsNoRequest 2097152 input
bad_by input read g place w is more whole rest r s le e =
    let stopped = same_answer read (Err (fault.NotLdap place w)) (request_at 2097152 input) is g in
    stops (Fault place w) (r, length whole) (sym (fault_once 2097152 place input more w stopped) ∙ ap (request_at 2097152) e ∙ spelled_is_read 2097152 whole rest r s le)
