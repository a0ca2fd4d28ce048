-- What the control of an update carries is read back.
use Rattle.std.proofs.Common.{◌≡◌, ℕ, ◌<◌, ◌^◌, true, cond, List, [], ◌∷◌, ◌++◌, length, map, Option, Some, None, Result, Ok, refl, sym, ap, subst, ◌∙◌, append_assoc, arith, length-append, append-nil, eq-eqb}
use Rattle.std.specs.Prelude.{bytes_eq, slice_get}
use Rattle.std.specs.List.{flat_map}
use Rattle.hex.specs.Hex.{encode_with}
use Rattle.ber_core.specs.Element.{element}
use Rattle.ber_core.specs.Spelling.{Element, Each, none, next, Octets}
use Rattle.ber_core.specs.Window.{Stop, Window, or_shape, octets, ◌>>=◌, element as reads_element, many, optional, ended}
use Rattle.ber_core.proofs.Sound.{element_some}
use Rattle.ber_core.proofs.Complete.{Gets, gets, go_on, every, Is, Holds, cut, FullInside, element_full, octets_full, ended_full}
use Rattle.ber_core.proofs.CompleteMany.{Starts, no_more, element_first, many_full, left_out, there}
use Rattle.repl_data.specs.declared.csn.Csn.{Csn}
use Rattle.repl_data.specs.declared.csn.Uid.{Uid}
use Rattle.repl_data.specs.declared.change.Ava.{Ava}
use Rattle.repl_data.specs.declared.change.Body.{Body}
use Rattle.repl_data.specs.declared.change.Body.TheVariants as body
use Rattle.repl_data.specs.declared.change.Update.{Update}
use Rattle.repl_data.specs.Text.{IsInRange, read_csn, csn_text, uid_text}
use Rattle.repl_data.proofs.Bytes.{read_csn-csn_text, length-uid_text}
use Rattle.repl_wire.specs.declared.control.Fields.{Fields}
use Rattle.repl_wire.specs.declared.control.Dropped.{Dropped}
use Rattle.repl_wire.specs.Control.{digits_of, if_printed, uid_of, csn_digits, printed_id, one_value, dropped_inside, dropped_here, control_inside, control_at}
use Rattle.repl_wire.specs.Form.{octet_string}
use Rattle.repl_wire.specs.UpdateForm.{name_text, dropped_part, fields, control_value}
use Rattle.repl_wire.specs.Laws.{HasParentInRange, HasIdsInRange}
use Rattle.repl_wire.proofs.Back.{written, longer, alone_full}
use Rattle.repl_wire.proofs.Carried.{dropped_of}

-- ---- printed ids

pub length-csn_text : (c : Csn) → length (csn_text c) ≡ 20
unfolding encode_with
length-csn_text c = refl

digits_of-uid_text : (u : Uid) → digits_of (uid_text u) ≡ csn_text u.csn
unfolding encode_with
digits_of-uid_text u = refl

same_bytes : (xs : List ℕ) → bytes_eq xs xs ≡ true
same_bytes [] = refl
same_bytes (x ∷ xs) = let e = eq-eqb x x refl in rw e (same_bytes xs)

pub uid_back : (u : Uid) → IsInRange u.csn → uid_of (uid_text u) ≡ Some u
unfolding uid_of
uid_back u r =
    ap (λ b. cond b (if_printed (uid_text u) (read_csn (digits_of (uid_text u)))) None) (eq-eqb (length (uid_text u)) 35 (length-uid_text u))
    ∙ ap (if_printed (uid_text u)) (ap read_csn (digits_of-uid_text u) ∙ read_csn-csn_text u.csn r)
    ∙ ap (λ b. cond b (Some u) None) (same_bytes (uid_text u))

-- ---- contents

shaped : {A : Type 0} (start : ℕ) (o : Option A) (x : A) → o ≡ Some x → Gets (Is x) (or_shape start o)
shaped {A} start o x e = subst (λ (p : Option A). Gets (Is x) (or_shape start p)) (sym e) (gets x refl)

abbrev IsDigits : List ℕ → Csn → Type 0
IsDigits body c = (body ≡ csn_text c) × IsInRange c

csn_full : FullInside csn_digits IsDigits
unfolding csn_digits
csn_full w body c h e = go_on (octets_full w body body h refl) (λ text is. shaped w.start (read_csn text) c (ap read_csn (is ∙ e.0) ∙ read_csn-csn_text c e.1))

abbrev IsId : List ℕ → Uid → Type 0
IsId body u = (body ≡ uid_text u) × IsInRange u.csn

id_full : FullInside printed_id IsId
unfolding printed_id
id_full w body u h e = go_on (octets_full w body body h refl) (λ text is. shaped w.start (uid_of text) u (ap uid_of (is ∙ e.0) ∙ uid_back u e.1))

-- ---- dropped values

abbrev IsOne : List ℕ → List ℕ → Type 0
IsOne body v = (body ≡ octet_string v) × (length body < 2 ^ 64)

text_element : (v : List ℕ) → length (octet_string v) < 2 ^ 64 → Element 0x04 Octets (octet_string v) v
text_element v small = let more = longer 0x04 v in written Octets 0x04 v v (λ e. absurd cc) (omega arith) refl

one_full : FullInside one_value IsOne
unfolding one_value
one_full w body v h e =
    go_on (element_full 0x04 octets Octets octets_full w (octet_string v) [] v (cut w body _ h (e.0 ∙ sym (append-nil (octet_string v)))) (text_element v (subst (λ xs. length xs < 2 ^ 64) e.0 e.1))) (λ p l.
    go_on (ended_full p.1 [] l.1 refl) (λ over u. gets p.0 l.0))

abbrev IsDroppedBody : List ℕ → Dropped → Type 0
IsDroppedBody body d = (body ≡ octet_string d.name ++ element 0x31 (octet_string d.spelled)) × (length body < 2 ^ 64)

dropped_full : FullInside dropped_inside IsDroppedBody
unfolding dropped_inside
dropped_full w body d h e =
    let n = octet_string d.name in
    let v = element 0x31 (octet_string d.spelled) in
    let small : length (n ++ v) < 2 ^ 64 = subst (λ xs. length xs < 2 ^ 64) e.0 e.1 in
    let len = length-append n v in
    let more = longer 0x31 (octet_string d.spelled) in
    go_on (element_full 0x04 octets Octets octets_full w n (v ++ []) d.name (cut w body _ h (e.0 ∙ ap (λ xs. n ++ xs) (sym (append-nil v)))) (text_element d.name (omega arith))) (λ p l.
    go_on (element_full 0x31 one_value IsOne one_full p.1 v [] d.spelled l.1 (written IsOne 0x31 (octet_string d.spelled) d.spelled (λ z. absurd cc) (omega arith) (refl, omega arith))) (λ q m.
    go_on (ended_full q.1 [] m.1 refl) (λ over u. gets (record { name = p.0; spelled = q.0 }) (λ i. record { name = l.0 i; spelled = m.0 i }))))

abbrev IsDropped : List ℕ → Dropped → Type 0
IsDropped = Element 0x30 IsDroppedBody

dropped_element : (a : Ava) → length (dropped_part a) < 2 ^ 64 → IsDropped (dropped_part a) (dropped_of a)
unfolding dropped_part
dropped_element a small =
    let b = octet_string a.attr.name ++ element 0x31 (octet_string a.val.spelled) in
    let more = longer 0x30 b in
    written IsDroppedBody 0x30 b (dropped_of a) (λ e. absurd cc) (omega arith) (refl, omega arith)

all_dropped : (parts : List Ava) → length (flat_map dropped_part parts) < 2 ^ 64 → Each IsDropped (flat_map dropped_part parts) (map dropped_of parts)
all_dropped [] small = none
all_dropped (a ∷ parts) small =
    let len = length-append (dropped_part a) (flat_map dropped_part parts) in
    next (dropped_part a) (flat_map dropped_part parts) (dropped_of a) (map dropped_of parts) (dropped_element a (omega arith)) (all_dropped parts (omega arith))

many_dropped : FullInside (many dropped_here) (Each IsDropped)
many_dropped = many_full dropped_here IsDropped (element_full 0x30 dropped_inside IsDroppedBody dropped_full) (λ front d p. element_some 0x30 p.0 front p.1)

-- ---- the fields

-- what the reader sees of an update
abbrev pub parent_of : Body → Option Uid
parent_of (body.Add parent rdn attrs) = Some parent
parent_of (body.Mod mods) = None
parent_of (body.Ren rdn dropped) = None
parent_of body.Del = None

abbrev pub name_of : Body → Option (List ℕ)
name_of (body.Add parent rdn attrs) = Some (name_text rdn)
name_of (body.Mod mods) = None
name_of (body.Ren rdn dropped) = None
name_of body.Del = None

abbrev pub all_dropped_of : Body → Option (List Dropped)
all_dropped_of (body.Add parent rdn attrs) = None
all_dropped_of (body.Mod mods) = None
all_dropped_of (body.Ren rdn dropped) = Some (map dropped_of dropped)
all_dropped_of body.Del = None

abbrev pub fields_of : Update → Fields
fields_of u = record { csn = u.change.csn; prev = u.prev; parent = parent_of u.change.body; name = name_of u.change.body; dropped = all_dropped_of u.change.body }

-- the fields that may be left out, one after the other, up to the end
abbrev tail : Window → (Option Uid → Option (List ℕ) → Option (List Dropped) → Fields) → Result Fields Stop
tail w k =
    optional 0x80 printed_id w >>= λ parent. optional 0x81 octets parent.1 >>= λ name. optional 0xa2 (many dropped_here) name.1 >>= λ dropped. ended dropped.1 >>= λ over. Ok (k parent.0 name.0 dropped.0)

abbrev IsTail : Body → (Option Uid → Option (List ℕ) → Option (List Dropped) → Fields) → Result Fields Stop → Type 0
IsTail b k r = Gets (Is (k (parent_of b) (name_of b) (all_dropped_of b))) r

nothing_left : (w : Window) (k : Option Uid → Option (List ℕ) → Option (List Dropped) → Fields) → Holds w [] → Gets (Is (k None None None)) (tail w k)
nothing_left w k h =
    go_on (left_out 0x80 printed_id w no_more h (λ e. absurd cc)) (λ p l.
    go_on (left_out 0x81 octets p.1 no_more l.1 (λ e. absurd cc)) (λ q m.
    go_on (left_out 0xa2 (many dropped_here) q.1 no_more m.1 (λ e. absurd cc)) (λ s n.
    go_on (ended_full s.1 [] n.1 refl) (λ over u.
    gets (k p.0 q.0 s.0) (λ i. k (l.0 i) (m.0 i) (n.0 i))))))

number_or : Option ℕ → ℕ
number_or (Some n) = n
number_or None = 0

same_number : (m n : ℕ) → Some m ≡ Some n → m ≡ n
unfolding number_or
same_number m n e = ap number_or e

other_tag : (tag kind : ℕ) (body : List ℕ) → (kind ≡ tag → ⊥) → slice_get (element kind body ++ []) 0 ≡ Some tag → ⊥
unfolding element
other_tag tag kind body never e = never (same_number kind tag e)

add_tail : (parent : Uid) (name : List ℕ) (w : Window) (k : Option Uid → Option (List ℕ) → Option (List Dropped) → Fields) → Holds w (element 0x80 (uid_text parent) ++ element 0x81 name) → IsInRange parent.csn
    → length (element 0x80 (uid_text parent) ++ element 0x81 name) < 2 ^ 64 → Gets (Is (k (Some parent) (Some name) None)) (tail w k)
add_tail parent name w k h r small =
    let first = element 0x80 (uid_text parent) in
    let second = element 0x81 name in
    let len = length-append first second in
    let one = longer 0x80 (uid_text parent) in
    let two = longer 0x81 name in
    go_on (there 0x80 printed_id IsId id_full w first (second ++ []) parent (cut w _ _ h (ap (λ xs. first ++ xs) (sym (append-nil second)))) (written IsId 0x80 (uid_text parent) parent (λ e. absurd cc) (omega arith) (refl, r))) (λ p l.
    go_on (there 0x81 octets Octets octets_full p.1 second [] name l.1 (written Octets 0x81 name name (λ e. absurd cc) (omega arith) refl)) (λ q m.
    go_on (left_out 0xa2 (many dropped_here) q.1 no_more m.1 (λ e. absurd cc)) (λ s n.
    go_on (ended_full s.1 [] n.1 refl) (λ over u.
    gets (k p.0 q.0 s.0) (λ i. k (l.0 i) (m.0 i) (n.0 i))))))

rename_tail : (dropped : List Ava) (w : Window) (k : Option Uid → Option (List ℕ) → Option (List Dropped) → Fields) → Holds w (element 0xa2 (flat_map dropped_part dropped))
    → length (element 0xa2 (flat_map dropped_part dropped)) < 2 ^ 64 → Gets (Is (k None None (Some (map dropped_of dropped)))) (tail w k)
rename_tail dropped w k h small =
    let body = flat_map dropped_part dropped in
    let whole = element 0xa2 body in
    let more = longer 0xa2 body in
    let el : Element 0xa2 (Each IsDropped) whole (map dropped_of dropped) = written (Each IsDropped) 0xa2 body (map dropped_of dropped) (λ e. absurd cc) (omega arith) (all_dropped dropped (omega arith)) in
    let starts : Starts (whole ++ []) = element_first whole [] el.0 0xa2 el.1 in
    go_on (left_out 0x80 printed_id w starts (cut w _ _ h (sym (append-nil whole))) (other_tag 0x80 0xa2 body (λ e. absurd (omega arith)))) (λ p l.
    go_on (left_out 0x81 octets p.1 starts l.1 (other_tag 0x81 0xa2 body (λ e. absurd (omega arith)))) (λ q m.
    go_on (there 0xa2 (many dropped_here) (Each IsDropped) many_dropped q.1 whole [] (map dropped_of dropped) m.1 el) (λ s n.
    go_on (ended_full s.1 [] n.1 refl) (λ over u.
    gets (k p.0 q.0 s.0) (λ i. k (l.0 i) (m.0 i) (n.0 i))))))

tail_full : (b : Body) (w : Window) (k : Option Uid → Option (List ℕ) → Option (List Dropped) → Fields) → Holds w (fields b) → HasParentInRange b → length (fields b) < 2 ^ 64 → IsTail b k (tail w k)
tail_full (body.Add parent rdn attrs) w k h r small = add_tail parent (name_text rdn) w k h r small
tail_full (body.Mod mods) w k h r small = nothing_left w k h
tail_full (body.Ren rdn dropped) w k h r small = rename_tail dropped w k h small
tail_full body.Del w k h r small = nothing_left w k h

-- ---- the value

csn_element : (c : Csn) → IsInRange c → Element 0x04 IsDigits (octet_string (csn_text c)) c
csn_element c r = let n = length-csn_text c in written IsDigits 0x04 (csn_text c) c (λ e. absurd cc) (omega arith) (refl, r)

abbrev content : Update → List ℕ
content u = octet_string (csn_text u.change.csn) ++ octet_string (csn_text u.prev) ++ fields u.change.body

pub record IsControl (body : List ℕ) (f : Fields) : Type 0 where
  pub of : Update
  pub parts : body ≡ content of
  pub is : f ≡ fields_of of
  pub in_range : HasIdsInRange of
  pub small : length body < 2 ^ 64

control_full : FullInside control_inside IsControl
unfolding control_inside
control_full w body f h c =
    let u = c.of in
    let r = c.in_range in
    let first = octet_string (csn_text u.change.csn) in
    let second = octet_string (csn_text u.prev) in
    let third = fields u.change.body in
    let small : length (first ++ second ++ third) < 2 ^ 64 = subst (λ xs. length xs < 2 ^ 64) c.parts c.small in
    let l1 = length-append (first ++ second) third in
    let parts : body ≡ first ++ (second ++ third) = c.parts ∙ append_assoc first second third in
    subst (λ (g : Fields). Gets (Is g) (control_inside w)) (sym c.is)
    (go_on (element_full 0x04 csn_digits IsDigits csn_full w first (second ++ third) u.change.csn (cut w body _ h parts) (csn_element u.change.csn r.csn)) (λ p l.
    go_on (element_full 0x04 csn_digits IsDigits csn_full p.1 second third u.prev l.1 (csn_element u.prev r.prev)) (λ q m.
    every (tail_full u.change.body q.1 (λ a b d. record { csn = p.0; prev = q.0; parent = a; name = b; dropped = d }) m.1 r.parent (omega arith)) (λ g is.
    is ∙ (λ i. record { csn = l.0 i; prev = m.0 i; parent = parent_of u.change.body; name = name_of u.change.body; dropped = all_dropped_of u.change.body })))))

pub control_back : (u : Update) → HasIdsInRange u → length (control_value u) < 2 ^ 64 → control_at (control_value u) ≡ Ok (fields_of u)
unfolding control_value
control_back u r small =
    let more = longer 0x30 (content u) in
    alone_full (reads_element 0x30 control_inside) (Element 0x30 IsControl) (element 0x30 (content u)) (fields_of u) (element_full 0x30 control_inside IsControl control_full)
    (written IsControl 0x30 (content u) (fields_of u) (λ e. absurd cc) (omega arith) (record { of = u; parts = refl; is = refl; in_range = r; small = omega arith }))
