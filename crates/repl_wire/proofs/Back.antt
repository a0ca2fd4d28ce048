-- What is written of a value is read back.
use Rattle.std.proofs.Common.{◌≡◌, ℕ, zero, suc, ◌+◌, ◌≤◌, ◌<◌, ◌^◌, ℤ, pos, Bool, true, false, cond, ltb, List, [], ◌∷◌, ◌++◌, length, get_or, Option, Some, None, Result, Ok, refl, sym, ap, subst, ◌∙◌, append_assoc, arith, length-append, le-ltb, lt-ltb, ltb-false, append-nil}
use Rattle.std.specs.Prelude.{◌==◌, ◌||◌, nat_lt, FitsSigned}
use Rattle.std.specs.Int.{w64}
use Rattle.std.specs.List.{flat_map}
use Rattle.std.proofs.lemmas.Int.{ints}
use Rattle.ber_core.specs.declared.fault.NotLdapWhy.TheVariants.{Shape}
use Rattle.ber_core.specs.Element.{IsTag, element, shortest_length}
use Rattle.ber_core.specs.Number.{integer as integer_value, integer_of, shortest_integer}
use Rattle.ber_core.specs.Spelling.{Element, Octets}
use Rattle.ber_core.specs.Window.{Stop, Window, Reading, octets, element as reads_element, ranged}
use Rattle.ber_core.proofs.Written.{IsElement-element, integer_of-shortest_integer}
use Rattle.ber_core.proofs.Sound.{element_some}
use Rattle.ber_core.proofs.Complete.{Gets, gets, go_on, chosen, passed, Is, value_is, Holds, cut, Full, FullInside, at_end, not_at_end, element_full, octets_full, int_full, ended_full, less}
use Rattle.repl_data.specs.declared.csn.Csn.{Csn}
use Rattle.repl_data.specs.Order.{zero_csn}
use Rattle.repl_data.specs.Text.{IsInRange, csn_bytes, csn_of}
use Rattle.repl_data.proofs.Bytes.{csn_of-csn_bytes}
use Rattle.vector_core.specs.declared.answers.Start.{Start}
use Rattle.repl_wire.specs.declared.session.End.{End}
use Rattle.repl_wire.specs.Form.{octet_string, integer, vector_value, start_value, end_value}
use Rattle.repl_wire.specs.Laws.{IsSupplied}
use Rattle.repl_wire.specs.Value.{front_of, alone, between, replica_id, csn_above, csn_inside, csns_from, vector_inside, vector_here, start_inside, start_at, started_at, end_at}

-- ---- elements as they are written

-- the element of a content that is below the limit
pub written : {A : Type 0} (Q : List ℕ → A → Type 0) (tag : ℕ) (body : List ℕ) (x : A) → IsTag tag → length body < 2 ^ 64 → Q body x → Element tag Q (element tag body) x
written Q tag body x t small q = (body, IsElement-element tag body t small, q)

-- a content is no longer than its element
pub longer : (tag : ℕ) (body : List ℕ) → length body < length (element tag body)
unfolding element
longer tag body = omega (arith, length-append (tag ∷ shortest_length (length body)) body)

fits_width : (n : ℕ) → n < 2 ^ 32 → FitsSigned w64 (pos n)
fits_width n lt = omega (arith, ints)

pub integer_is : (n : ℕ) → n < 2 ^ 32 → integer_of (shortest_integer (pos n)) ≡ Some (pos n)
integer_is n lt = integer_of-shortest_integer (pos n) (fits_width n lt)

-- an integer has at most eight bytes
pub integer_few : (n : ℕ) → n < 2 ^ 32 → length (shortest_integer (pos n)) ≤ 8
integer_few n lt =
    let m = length (shortest_integer (pos n)) in
    let few = ltb-false 8 m (second_false (m == 0) (nat_lt 8 m) (integer_value (shortest_integer (pos n))) (pos n) (integer_is n lt)) in
    few
  where
    second_false : (a b : Bool) (z y : ℤ) → cond (a || b) None (Some z) ≡ Some y → b ≡ false
    second_false true b z y e = absurd cc
    second_false false true z y e = absurd cc
    second_false false false z y e = refl

pub integer_small : (n : ℕ) → n < 2 ^ 32 → length (shortest_integer (pos n)) < 2 ^ 64
integer_small n lt = let few = integer_few n lt in omega arith

-- ---- replica ids

in_tests : (a b : Bool) (n : ℕ) → a ≡ false → b ≡ false → cond (a || b) None (Some n) ≡ Some n
in_tests false false n p q = refl
in_tests true b n p q = absurd cc
in_tests false true n p q = absurd cc

abbrev IsRid : ℕ → ℕ → List ℕ → ℕ → Type 0
IsRid least most body n = (integer_of body ≡ Some (pos n)) × (least ≤ n) × (n ≤ most)

pub replica_full : (least most : ℕ) → FullInside (replica_id least most) (IsRid least most)
unfolding replica_id
replica_full least most w body n h e =
    go_on (int_full w body (pos n) h e.0) (λ z is.
    subst (λ (i : ℤ). Gets (Is n) (ranged Shape w.start (between least most i))) (sym is)
    (subst (λ (o : Option ℕ). Gets (Is n) (ranged Shape w.start o)) (sym (in_tests (ltb n least) (ltb most n) n (le-ltb n least e.1) (le-ltb most n e.2))) (gets n refl)))

-- ---- vectors

-- each CSN is of a supplier above the one before
abbrev pub Ascends : ℕ → List Csn → Type 0
Ascends last [] = Unit {0}
Ascends last (c ∷ cs) = IsInRange c × (last < c.rid) × (c.rid < 65535) × Ascends c.rid cs

abbrev IsCsn : ℕ → List ℕ → Csn → Type 0
IsCsn last body c = (body ≡ csn_bytes c) × IsInRange c × (last < c.rid) × (c.rid < 65535)

abbrev read_csn : Csn → Result Csn Stop
read_csn c = Ok c

csn_read : (start last : ℕ) (c : Csn) → IsInRange c → last < c.rid → c.rid < 65535 → csn_above start last (csn_bytes c) ≡ read_csn c
csn_read start last c r above below =
    let e = csn_of-csn_bytes c r in
    let a : ltb last (csn_of (csn_bytes c)).rid ≡ true = lt-ltb last _ (subst (λ (d : Csn). last < d.rid) (sym e) above) in
    let b : ltb (csn_of (csn_bytes c)).rid 65535 ≡ true = lt-ltb _ 65535 (subst (λ (d : Csn). d.rid < 65535) (sym e) below) in
    rw (a, b) (ap read_csn e)

csn_full : (last : ℕ) → FullInside (csn_inside last) (IsCsn last)
unfolding csn_inside
csn_full last w body c h e =
    go_on (octets_full w body body h refl) (λ bytes is.
    subst (λ (b : List ℕ). Gets (Is c) (csn_above w.start last b)) (sym (is ∙ e.0))
    (subst (λ (r : Result Csn Stop). Gets (Is c) r) (sym (csn_read w.start last c e.1 e.2 e.3)) (gets c refl)))

abbrev csn_string : Csn → List ℕ
csn_string c = octet_string (csn_bytes c)

csn_element : (last : ℕ) (c : Csn) → IsInRange c → last < c.rid → c.rid < 65535 → Element 0x04 (IsCsn last) (csn_string c) c
csn_element last c r a b = written (IsCsn last) 0x04 (csn_bytes c) c (λ e. absurd cc) (omega arith) (refl, r, a, b)

csns_full : (last n : ℕ) (w : Window) (cs : List Csn) → w.left ≤ n → Holds w (flat_map csn_string cs) → Ascends last cs → Gets (Is cs) (csns_from last n w)
unfolding csns_from
csns_full last zero w [] le h a = gets [] refl
csns_full last zero w (c ∷ cs) le h a =
    let el = csn_element last c a.0 a.1 a.2 in
    let some = element_some 0x04 el.0 (csn_string c) el.1 in
    let len = length-append (csn_string c) (flat_map csn_string cs) in
    let left = h.left in
    absurd (omega arith)
csns_full last (suc n) w [] le h a = chosen _ (w.left == 0) (at_end w [] h refl) (gets [] refl)
csns_full last (suc n) w (c ∷ cs) le h a =
    let el = csn_element last c a.0 a.1 a.2 in
    let some = element_some 0x04 el.0 (csn_string c) el.1 in
    passed _ (w.left == 0) (not_at_end w (csn_string c) (flat_map csn_string cs) h some)
    (go_on (element_full 0x04 (csn_inside last) (IsCsn last) (csn_full last) w (csn_string c) (flat_map csn_string cs) c h el) (λ d l.
    go_on (subst (λ k. Gets (Is cs) (csns_from k n d.1)) (ap (λ (x : Csn). x.rid) (sym l.0)) (csns_full c.rid n d.1 cs (less n w d.1 (csn_string c) (flat_map csn_string cs) le h l.1 some) l.1 a.3)) (λ others is.
    gets (d.0 ∷ others) (λ i. l.0 i ∷ is i))))

ascends : (last : ℕ) (cs : List Csn) → IsSupplied cs → ((i : ℕ) → i < length cs → last < (get_or cs i zero_csn).rid) → Ascends last cs
ascends last [] s low = tt
ascends last (c ∷ cs) s low =
    let v = s.is_vector in
    let sup = s.suppliers 0 (omega arith) in
    (s.in_range 0 (omega arith), low 0 (omega arith), sup.1, ascends c.rid cs rest (λ i lt. v.rising 0 (suc i) (omega arith) (omega arith)))
  where
    rest : IsSupplied cs
    rest =
        let v = s.is_vector in
        record {
          is_vector = record { rising = λ i j lt le. v.rising (suc i) (suc j) (omega arith) (omega arith); kept = λ i lt. v.kept (suc i) (omega arith) };
          in_range = λ i lt. s.in_range (suc i) (omega arith);
          suppliers = λ i lt. s.suppliers (suc i) (omega arith);
        }

pub ascends_from_0 : (cs : List Csn) → IsSupplied cs → Ascends 0 cs
ascends_from_0 cs s = ascends 0 cs s (λ i lt. (s.suppliers i lt).0)

-- what is inside the element of a vector
abbrev pub IsVectorBody : List ℕ → List Csn → Type 0
IsVectorBody body cs = (body ≡ flat_map csn_string cs) × IsSupplied cs

vector_inside_full : FullInside vector_inside IsVectorBody
vector_inside_full w body cs h e =
    csns_full 0 w.left w cs (omega arith) (cut w body _ h e.0) (ascends_from_0 cs e.1)

pub vector_full : Full vector_here (Element 0x30 IsVectorBody)
vector_full = element_full 0x30 vector_inside IsVectorBody vector_inside_full

pub vector_element : (cs : List Csn) → IsSupplied cs → length (vector_value cs) < 2 ^ 64 → Element 0x30 IsVectorBody (vector_value cs) cs
unfolding vector_value
vector_element cs s small = let more = longer 0x30 (flat_map csn_string cs) in written IsVectorBody 0x30 (flat_map csn_string cs) cs (λ e. absurd cc) (omega arith) (refl, s)

-- ---- values

value_holds : (bytes : List ℕ) → Holds (front_of bytes) (bytes ++ [])
value_holds bytes = record { rest = []; parts = sym (append-nil bytes) ∙ sym (append-nil (bytes ++ [])); left = ap (λ (xs : List ℕ). length xs) (sym (append-nil bytes)) }

-- one element alone
pub alone_full : {A : Type 0} (piece : Window → Reading A) (P : List ℕ → A → Type 0) (bytes : List ℕ) (x : A) → Full piece P → P bytes x → alone piece bytes ≡ Ok x
unfolding alone
alone_full piece P bytes x full p =
    value_is x _ (go_on (full (front_of bytes) bytes [] x (value_holds bytes) p) (λ y l. go_on (ended_full y.1 [] l.1 refl) (λ over u. gets y.0 l.0)))

abbrev IsStartBody : List ℕ → Start → Type 0
IsStartBody body s = (body ≡ octet_string s.suffix ++ integer s.rid ++ vector_value s.front) × (1 ≤ s.rid) × (s.rid ≤ 65534) × IsSupplied s.front × (length body < 2 ^ 64)

start_inside_full : FullInside start_inside IsStartBody
unfolding start_inside
start_inside_full w body s h e =
    let first = octet_string s.suffix in
    let second = integer s.rid in
    let third = vector_value s.front in
    let size = e.4 in
    let len : length body ≡ length first + length second + length third = ap (λ (xs : List ℕ). length xs) e.0 ∙ length-append (first ++ second) third ∙ ap (λ n. n + length third) (length-append first second) in
    let one = longer 0x04 s.suffix in
    let parts : body ≡ first ++ (second ++ (third ++ [])) = e.0 ∙ append_assoc first second third ∙ ap (λ xs. first ++ (second ++ xs)) (sym (append-nil third)) in
    go_on (element_full 0x04 octets Octets octets_full w first (second ++ (third ++ [])) s.suffix (cut w body _ h parts) (written Octets 0x04 s.suffix s.suffix (λ z. absurd cc) (omega arith) refl)) (λ p l.
    go_on (element_full 0x02 (replica_id 1 65534) (IsRid 1 65534) (replica_full 1 65534) p.1 second (third ++ []) s.rid l.1 (written (IsRid 1 65534) 0x02 (shortest_integer (pos s.rid)) s.rid (λ z. absurd cc) (integer_small s.rid (omega arith)) (integer_is s.rid (omega arith), e.1, e.2))) (λ q m.
    go_on (vector_full q.1 third [] s.front m.1 (vector_element s.front e.3 (omega arith))) (λ v n.
    go_on (ended_full v.1 [] n.1 refl) (λ over u.
    gets (record { suffix = p.0; rid = q.0; front = v.0 }) (λ i. record { suffix = l.0 i; rid = m.0 i; front = n.0 i })))))

pub start_back : (s : Start) → 1 ≤ s.rid → s.rid ≤ 65534 → IsSupplied s.front → length (start_value s) < 2 ^ 64 → start_at (start_value s) ≡ Ok s
unfolding start_value
start_back s low high front small =
    let body = octet_string s.suffix ++ integer s.rid ++ vector_value s.front in
    let more = longer 0x30 body in
    alone_full (reads_element 0x30 start_inside) (Element 0x30 IsStartBody) (element 0x30 body) s (element_full 0x30 start_inside IsStartBody start_inside_full)
    (written IsStartBody 0x30 body s (λ z. absurd cc) (omega arith) (refl, low, high, front, omega arith))

pub started_back : (cs : List Csn) → IsSupplied cs → length (vector_value cs) < 2 ^ 64 → started_at (vector_value cs) ≡ Ok cs
started_back cs s small = alone_full vector_here (Element 0x30 IsVectorBody) (vector_value cs) cs vector_full (vector_element cs s small)

pub end_back : (e : End) → e.rid < 65536 → end_at (end_value e) ≡ Ok e
unfolding end_at end_value
end_back e lt =
    let k = alone_full (reads_element 0x02 (replica_id 0 65535)) (Element 0x02 (IsRid 0 65535)) (integer e.rid) e.rid (element_full 0x02 (replica_id 0 65535) (IsRid 0 65535) (replica_full 0 65535))
    (written (IsRid 0 65535) 0x02 (shortest_integer (pos e.rid)) e.rid (λ z. absurd cc) (integer_small e.rid (omega arith)) (integer_is e.rid (omega arith), omega arith, omega arith)) in
    rw k refl
