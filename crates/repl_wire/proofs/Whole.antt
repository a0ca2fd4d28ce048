-- All bytes of a value are there, so nothing is ever missing of it.
use Rattle.std.proofs.Common.{◌≡◌, ℕ, zero, suc, ◌+◌, ◌≤◌, ◌%◌, Bool, true, false, cond, ltb, List, [], ◌∷◌, length, take, Option, Some, None, Result, Ok, Err, refl, ap, arith, length-append, length-drop, le-ltb}
use Rattle.std.specs.Prelude.{◌==◌, ◌||◌, nat_lt}
use Rattle.ber_core.specs.declared.fault.BerFault.{BerFault}
use Rattle.ber_core.specs.declared.fault.BerFault.TheVariants as ber
use Rattle.ber_core.specs.declared.fault.BerWhy.TheVariants as ber_why
use Rattle.ber_core.specs.declared.fault.NotLdapWhy.{NotLdapWhy}
use Rattle.ber_core.specs.declared.fault.NotLdapWhy.TheVariants as why
use Rattle.ber_core.specs.declared.read.Header.{Header}
use Rattle.ber_core.specs.Number.{integer_of}
use Rattle.ber_core.specs.Reading.{header_at, header_size, least_size}
use Rattle.ber_core.specs.Window.{Stop, Fault, More, Window, Reading, ◌>>=◌, tag_in, tag_here, inside, after, both, open_here, open_as, octets, or_shape, int, element, ended, many_from, many, optional, ranged}
use Rattle.ber_core.proofs.Laws.{header_takes, header_missing}
use Rattle.repl_data.specs.Text.{read_csn}
use Rattle.repl_wire.specs.Control.{uid_of, csn_digits, printed_id, one_value, dropped_inside, dropped_here, control_inside, control_at}
use Rattle.repl_wire.specs.Laws.{NothingIsMissing}
use Rattle.repl_wire.specs.Value.{front_of, alone, between, replica_id, csn_inside, csns_from, vector_inside, vector_here, start_inside, start_at, started_at, end_at}

abbrev Whole : Window → Type 0
Whole w = w.left ≤ length w.bytes

-- more is not what is told, and P says so of what was read
data Told {A : Type 0} (P : A → Type 0) : Result A Stop → Type 0 where
  fine : (x : A) → P x → Told P (Ok x)
  wrong : (place : ℕ) (w : NotLdapWhy) → Told P (Err (Fault place w))

abbrev Any : {A : Type 0} → A → Type 0
Any x = Unit {0}

not_more : {A : Type 0} {P : A → Type 0} {r : Result A Stop} → Told P r → r ≡ Err More → ⊥
not_more (fine x p) e = absurd cc
not_more (wrong place w) e = absurd cc

and_so : {A B : Type 0} {P : A → Type 0} {Q : B → Type 0} {r : Result A Stop} {k : A → Result B Stop} → Told P r → ((x : A) → P x → Told Q (k x)) → Told Q (r >>= k)
and_so (fine x p) h = h x p
and_so (wrong place w) h = wrong place w

either : {A : Type 0} {P : A → Type 0} {r s : Result A Stop} (b : Bool) → Told P r → Told P s → Told P (cond b r s)
either true h k = h
either false h k = k

-- ---- elements

tag_in_told : (start at left : ℕ) (bytes : List ℕ) → left ≤ length bytes → Told Any (tag_in start at left bytes)
unfolding tag_in
tag_in_told start at zero bytes h = wrong start why.Shape
tag_in_told start at (suc zero) bytes h = wrong at (why.Ber ber_why.TooLarge)
tag_in_told start at (suc (suc left)) [] h = absurd (omega arith)
tag_in_told start at (suc (suc left)) (tag ∷ bytes) h = either (tag % 32 == 31) (wrong at (why.Ber ber_why.LongTag)) (fine tag tt)

tag_told : (w : Window) → Whole w → Told Any (tag_here w)
tag_told w h = tag_in_told w.start w.at w.left w.bytes h

abbrev Halves : Window × Window → Type 0
Halves o = Whole o.0 × Whole o.1

open_told : (w : Window) → Whole w → Told Halves (open_here w)
unfolding open_here
open_told w all = by_header (header_at w.left w.bytes) refl
  where
    by_header : (r : Result Header BerFault) → header_at w.left w.bytes ≡ r → Told Halves (both w r)
    by_header (Ok h) e =
        let k = header_takes w.left w.bytes h e in
        let le = k.there in
        let b = k.begins in
        let small = b.small in
        let size_is : header_size w.bytes ≡ h.size = ap (λ (x : Header). x.size) k.header_is in
        let least : least_size w.bytes ≡ h.size + h.content = ap (λ (x : Header). x.size + x.content) k.header_is in
        let one = length-drop h.size w.bytes in
        let two = length-drop (h.size + h.content) w.bytes in
        fine (inside w h, after w h) (omega arith, omega arith)
    by_header (Err (ber.More n)) e =
        let m = header_missing w.left w.bytes n e in
        let some = m.some_missing in
        let q = m.enough in
        let len = length-append w.bytes q.0 in
        let count = q.2 in
        let within = q.3.3 in
        absurd (omega arith)
    by_header (Err (ber.Bad place y)) e = wrong (w.at + place) (why.Ber y)

open_as_told : (tag : ℕ) (w : Window) → Whole w → Told Halves (open_as tag w)
unfolding open_as
open_as_told tag w h = and_so (tag_told w h) (λ t u. either (t == tag) (open_told w h) (wrong w.at why.Shape))

element_told : {A : Type 0} {P : A → Type 0} (tag : ℕ) (content : Window → Result A Stop) → ((v : Window) → Whole v → Told P (content v)) → (w : Window) → Whole w → Told (λ p. P p.0 × Whole p.1) (element tag content w)
unfolding element
element_told tag content h w all = and_so (open_as_told tag w all) (λ o halves. and_so (h o.0 halves.0) (λ x p. fine (x, o.1) (p, halves.1)))

-- ---- leaves

octets_told : (w : Window) → Whole w → Told Any (octets w)
unfolding octets
octets_told w h = let there : ltb (length w.bytes) w.left ≡ false = le-ltb (length w.bytes) w.left h in rw there (fine (take w.left w.bytes) tt)

shape_told : {A : Type 0} (start : ℕ) (o : Option A) → Told Any (or_shape start o)
shape_told start (Some x) = fine x tt
shape_told start None = wrong start why.Shape

int_told : (w : Window) → Whole w → Told Any (int w)
unfolding int
int_told w h = either (w.left == 0 || nat_lt 8 w.left) (wrong w.start why.Shape) (and_so (octets_told w h) (λ bytes u. shape_told w.start (integer_of bytes)))

ranged_told : (at : ℕ) (o : Option ℕ) → Told Any (ranged why.Shape at o)
ranged_told at (Some n) = fine n tt
ranged_told at None = wrong at why.Shape

replica_told : (least most : ℕ) (w : Window) → Whole w → Told Any (replica_id least most w)
unfolding replica_id
replica_told least most w h = and_so (int_told w h) (λ z u. ranged_told w.start (between least most z))

ended_told : (w : Window) → Whole w → Told Any (ended w)
unfolding ended
ended_told w h = either (w.left == 0) (fine tt tt) (and_so (tag_told w h) (λ t u. wrong w.at why.Shape))

csn_told : (last : ℕ) (w : Window) → Whole w → Told Any (csn_inside last w)
unfolding csn_inside
csn_told last w h = and_so (octets_told w h) (λ bytes u. either _ (fine _ tt) (wrong w.start why.Shape))

csns_told : (last n : ℕ) (w : Window) → Whole w → Told Any (csns_from last n w)
unfolding csns_from
csns_told last zero w h = fine [] tt
csns_told last (suc n) w h =
    either (w.left == 0) (fine [] tt)
    (and_so (element_told 0x04 (csn_inside last) (csn_told last) w h) (λ c p. and_so (csns_told c.0.rid n c.1 p.1) (λ others u. fine (c.0 ∷ others) tt)))

vector_told : (w : Window) → Whole w → Told (λ p. Any p.0 × Whole p.1) (vector_here w)
vector_told w h = element_told 0x30 vector_inside (λ v k. csns_told 0 v.left v k) w h

-- ---- values

start_told : (w : Window) → Whole w → Told Any (start_inside w)
unfolding start_inside
start_told w h =
    and_so (element_told 0x04 octets octets_told w h) (λ suffix p.
    and_so (element_told 0x02 (replica_id 1 65534) (replica_told 1 65534) suffix.1 p.1) (λ rid q.
    and_so (vector_told rid.1 q.1) (λ front s.
    and_so (ended_told front.1 s.1) (λ over u. fine _ tt))))

alone_told : {A : Type 0} (P : A → Type 0) (piece : Window → Reading A) (bytes : List ℕ) → ((w : Window) → Whole w → Told (λ p. P p.0 × Whole p.1) (piece w)) → Told Any (alone piece bytes)
unfolding alone
alone_told P piece bytes h = and_so (h (front_of bytes) (omega arith)) (λ x p. and_so (ended_told x.1 p.1) (λ over u. fine x.0 tt))

start_at_told : (bytes : List ℕ) → Told Any (start_at bytes)
start_at_told bytes = alone_told Any (element 0x30 start_inside) bytes (element_told 0x30 start_inside start_told)

started_at_told : (bytes : List ℕ) → Told Any (started_at bytes)
started_at_told bytes = alone_told Any vector_here bytes vector_told

rid_told : (bytes : List ℕ) → Told Any (alone (element 0x02 (replica_id 0 65535)) bytes)
rid_told bytes = alone_told Any (element 0x02 (replica_id 0 65535)) bytes (element_told 0x02 (replica_id 0 65535) (replica_told 0 65535))

end_at_told : (bytes : List ℕ) → Told Any (end_at bytes)
unfolding end_at
end_at_told bytes = and_so (rid_told bytes) (λ n u. fine (record { rid = n }) tt)

-- ---- the control of an update

or_shape_told : {A : Type 0} (read : List ℕ → Option A) (w : Window) → Whole w → Told Any (octets w >>= λ text. or_shape w.start (read text))
or_shape_told read w h = and_so (octets_told w h) (λ text u. shape_told w.start (read text))

csn_digits_told : (w : Window) → Whole w → Told Any (csn_digits w)
unfolding csn_digits
csn_digits_told w h = or_shape_told read_csn w h

printed_told : (w : Window) → Whole w → Told Any (printed_id w)
unfolding printed_id
printed_told w h = or_shape_told uid_of w h

abbrev Behind : {A : Type 0} → A × Window → Type 0
Behind p = Any p.0 × Whole p.1

optional_told : {A : Type 0} (tag : ℕ) (content : Window → Result A Stop) → ((v : Window) → Whole v → Told Any (content v)) → (w : Window) → Whole w → Told Behind (optional tag content w)
unfolding optional
optional_told tag content h w all =
    either (w.left == 0) (fine (None, w) (tt, all))
    (and_so (tag_told w all) (λ t u. either (t == tag) (and_so (element_told tag content h w all) (λ x p. fine (Some x.0, x.1) (tt, p.1))) (fine (None, w) (tt, all))))

many_told : {A : Type 0} (piece : Window → Reading A) → ((v : Window) → Whole v → Told Behind (piece v)) → (n : ℕ) (w : Window) → Whole w → Told Any (many_from piece n w)
unfolding many_from
many_told piece h zero w all = fine [] tt
many_told piece h (suc n) w all = either (w.left == 0) (fine [] tt) (and_so (h w all) (λ first p. and_so (many_told piece h n first.1 p.1) (λ others u. fine (first.0 ∷ others) tt)))

one_value_told : (w : Window) → Whole w → Told Any (one_value w)
unfolding one_value
one_value_told w h = and_so (element_told 0x04 octets octets_told w h) (λ value p. and_so (ended_told value.1 p.1) (λ over u. fine value.0 tt))

dropped_told : (w : Window) → Whole w → Told Any (dropped_inside w)
unfolding dropped_inside
dropped_told w h =
    and_so (element_told 0x04 octets octets_told w h) (λ name p.
    and_so (element_told 0x31 one_value one_value_told name.1 p.1) (λ value q.
    and_so (ended_told value.1 q.1) (λ over u. fine (record { name = name.0; spelled = value.0 }) tt)))

control_told : (w : Window) → Whole w → Told Any (control_inside w)
unfolding control_inside
control_told w h =
    and_so (element_told 0x04 csn_digits csn_digits_told w h) (λ csn p.
    and_so (element_told 0x04 csn_digits csn_digits_told csn.1 p.1) (λ prev q.
    and_so (optional_told 0x80 printed_id printed_told prev.1 q.1) (λ parent r.
    and_so (optional_told 0x81 octets octets_told parent.1 r.1) (λ name s.
    and_so (optional_told 0xa2 (many dropped_here) (λ v all. many_told dropped_here (element_told 0x30 dropped_inside dropped_told) v.left v all) name.1 s.1) (λ dropped t.
    and_so (ended_told dropped.1 t.1) (λ over u. fine (record { csn = csn.0; prev = prev.0; parent = parent.0; name = name.0; dropped = dropped.0 }) tt))))))

control_at_told : (bytes : List ℕ) → Told Any (control_at bytes)
control_at_told bytes = alone_told Any (element 0x30 control_inside) bytes (element_told 0x30 control_inside control_told)

pub nothing_is_missing : NothingIsMissing
nothing_is_missing bytes = (not_more (start_at_told bytes), not_more (started_at_told bytes), not_more (end_at_told bytes), not_more (control_at_told bytes))
