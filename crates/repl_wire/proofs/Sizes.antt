-- How many bytes messages have at most.
use Rattle.std.proofs.Common.{◌≡◌, ℕ, zero, suc, ◌+◌, ◌*◌, ◌/◌, ◌%◌, ◌^◌, ◌≤◌, ◌<◌, pos, List, [], ◌∷◌, ◌++◌, length, inl, inr, refl, ap, arith, length-append}
use Rattle.std.specs.List.{flat_map}
use Rattle.ber_core.specs.Element.{shortest_length, element}
use Rattle.ber_core.specs.Number.{IsBytes, number, shortest_integer}
use Rattle.ber_core.proofs.Written.{shortest_length-shorter}
use Rattle.repl_data.specs.declared.csn.Csn.{Csn}
use Rattle.repl_data.specs.Text.{csn_bytes}
use Rattle.repl_wire.specs.Form.{octet_string, integer, vector_value, start_name, extended_bytes, start_value}
use Rattle.repl_wire.specs.Laws.{IsSupplied, StartsFit}
use Rattle.repl_wire.proofs.Back.{Ascends, integer_few, ascends_from_0}

-- ---- elements

-- three digits of a number below 2 ^ 24
abbrev three : ℕ → List ℕ
three n = n / 65536 ∷ n / 256 % 256 ∷ n % 256 ∷ []

three_bytes : (n : ℕ) → n < 2 ^ 24 → IsBytes (131 ∷ three n)
three_bytes n lt zero = omega arith
three_bytes n lt (suc zero) = omega arith
three_bytes n lt (suc (suc zero)) = omega arith
three_bytes n lt (suc (suc (suc zero))) = omega arith
three_bytes n lt (suc (suc (suc (suc i)))) = omega arith

three_number : (n : ℕ) → n ≡ number (three n)
three_number n = omega arith

length_short : (n : ℕ) → n < 2 ^ 24 → length (shortest_length n) ≤ 4
length_short n lt =
    elim (shortest_length-shorter (131 ∷ three n) n (three_bytes n lt) (inr (record { some = omega arith; up_to_eight = omega arith; first = refl; value = three_number n }))) [
      | inl same ↦ (let len = ap (λ (xs : List ℕ). length xs) same in omega arith)
      | inr less ↦ omega arith
    ]

pub element_short : (tag : ℕ) (body : List ℕ) → length body < 2 ^ 24 → length (element tag body) ≤ length body + 5
unfolding element
element_short tag body lt = let few = length_short (length body) lt in omega (arith, length-append (tag ∷ shortest_length (length body)) body)

pub integer_short : (n : ℕ) → n < 2 ^ 32 → length (integer n) ≤ 13
integer_short n lt = let few = integer_few n lt in let k = element_short 0x02 (shortest_integer (pos n)) (omega arith) in omega arith

-- ---- starts

csn_string_size : (c : Csn) → length (octet_string (csn_bytes c)) ≤ 15
csn_string_size c = element_short 0x04 (csn_bytes c) (omega arith)

csns_size : (last : ℕ) (cs : List Csn) → last ≤ 65535 → Ascends last cs → length (flat_map (λ (c : Csn). octet_string (csn_bytes c)) cs) + 15 * last ≤ 15 * 65535
csns_size last [] le a = omega arith
csns_size last (c ∷ cs) le a =
    let one = csn_string_size c in
    let up = a.1 in
    let low = a.2 in
    let more = csns_size c.rid cs (omega arith) a.3 in
    let len = length-append (octet_string (csn_bytes c)) (flat_map (λ (d : Csn). octet_string (csn_bytes d)) cs) in
    omega arith

pub vector_size : (cs : List Csn) → IsSupplied cs → length (vector_value cs) ≤ 983030
unfolding vector_value
vector_size cs s =
    let all = csns_size 0 cs (omega arith) (ascends_from_0 cs s) in
    let k = element_short 0x30 (flat_map (λ (c : Csn). octet_string (csn_bytes c)) cs) (omega arith) in
    omega arith

pub starts_fit : StartsFit
unfolding start_value extended_bytes start_name
starts_fit id s i sound short =
    let most = i.most in
    let high = sound.to_65534 in
    let a = element_short 0x04 s.suffix (omega arith) in
    let b = integer_short s.rid (omega arith) in
    let c = vector_size s.front sound.front in
    let first = octet_string s.suffix in
    let second = integer s.rid in
    let third = vector_value s.front in
    let l1 = length-append (first ++ second) third in
    let l2 = length-append first second in
    let d = element_short 0x30 (first ++ second ++ third) (omega arith) in
    let value = element 0x30 (first ++ second ++ third) in
    let name = element 0x80 start_name in
    let e = element_short 0x80 start_name (omega arith) in
    let f = element_short 0x81 value (omega arith) in
    let l3 = length-append name (element 0x81 value) in
    let g = element_short 0x77 (name ++ element 0x81 value) (omega arith) in
    let h = integer_short id (omega arith) in
    let l4 = length-append (integer id) (element 0x77 (name ++ element 0x81 value)) in
    let k = element_short 0x30 (integer id ++ element 0x77 (name ++ element 0x81 value)) (omega arith) in
    omega arith
