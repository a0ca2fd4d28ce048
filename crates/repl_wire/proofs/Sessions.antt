-- Starts, their answers and ends come back from their messages.
use Rattle.std.proofs.Common.{◌≡◌, ℕ, ◌≤◌, ◌<◌, List, [], ◌++◌, length, Ok, ap, arith, length-append}
use Rattle.std.specs.Prelude.{pos}
use Rattle.ber_core.specs.Element.{element}
use Rattle.ber_core.specs.Number.{shortest_integer}
use Rattle.ldap_replies.specs.Form.{ldap_result, enumerated, reply_bytes, IsInRange}
use Rattle.ldap_replies.specs.Form as reply_form
use Rattle.ldap_replies.proofs.BackMessage.{reply_back}
use Rattle.repl_data.specs.declared.csn.Csn.{Csn}
use Rattle.vector_core.specs.declared.answers.Start.{Start}
use Rattle.repl_wire.specs.declared.session.End.{End}
use Rattle.repl_wire.specs.Fault.{in_value}
use Rattle.repl_wire.specs.Form.{integer, vector_value, start_name, end_name, extended_bytes, start_value, start_request, start_bytes, started_reply, started_bytes, end_value, end_request, end_bytes}
use Rattle.repl_wire.specs.Laws.{IsRequestId, IsSupplied, IsSoundStart, StartsComeBack, AnswersComeBack, EndsComeBack}
use Rattle.repl_wire.specs.Reading.{start_of, started_of, end_of}
use Rattle.repl_wire.proofs.Back.{longer, integer_few, start_back, started_back, end_back}
use Rattle.repl_wire.proofs.Requests.{extended_is_read}
use Rattle.repl_wire.proofs.Sizes.{element_short, integer_short, vector_size}

-- the value of an extended request is no longer than its message
value_shorter : (id : ℕ) (name value : List ℕ) → length value < length (extended_bytes id name value)
unfolding extended_bytes
value_shorter id name value =
    let n = element 0x80 name in
    let v = element 0x81 value in
    let op = element 0x77 (n ++ v) in
    let a = longer 0x81 value in
    let b = longer 0x77 (n ++ v) in
    let c = longer 0x30 (integer id ++ op) in
    let k = length-append n v in
    let l = length-append (integer id) op in
    omega arith

read_start_value : (id : ℕ) (s : Start) → IsSoundStart s → length (start_bytes id s) ≤ 2097152 → start_of (start_request id s) ≡ Ok s
unfolding start_of start_name
read_start_value id s sound le =
    let less = value_shorter id start_name (start_value s) in
    ap in_value (start_back s sound.from_1 sound.to_65534 sound.front (omega arith))

pub starts_come_back : StartsComeBack
starts_come_back id s i sound = record {
  request = λ rest le. extended_is_read id start_name (start_value s) rest i le;
  start = read_start_value id s sound;
}

read_end_value : (id : ℕ) (e : End) → e.rid < 65536 → end_of (end_request id e) ≡ Ok e
unfolding end_of end_name
read_end_value id e lt = ap in_value (end_back e lt)

end_short : (id : ℕ) (e : End) → IsRequestId id → e.rid < 65536 → length (end_bytes id e) ≤ 2097152
unfolding extended_bytes end_value end_name
end_short id e i lt =
    let most = i.most in
    let a = integer_short e.rid (omega arith) in
    let b = element_short 0x80 end_name (omega arith) in
    let c = element_short 0x81 (integer e.rid) (omega arith) in
    let parts = element 0x80 end_name ++ element 0x81 (integer e.rid) in
    let k = length-append (element 0x80 end_name) (element 0x81 (integer e.rid)) in
    let d = element_short 0x77 parts (omega arith) in
    let f = integer_short id (omega arith) in
    let l = length-append (integer id) (element 0x77 parts) in
    let g = element_short 0x30 (integer id ++ element 0x77 parts) (omega arith) in
    omega arith

pub ends_come_back : EndsComeBack
ends_come_back id e rest i lt = (extended_is_read id end_name (end_value e) rest i (end_short id e i lt), read_end_value id e lt)

-- ---- answers

answer_short : (id : ℕ) (cs : List Csn) → id ≤ 2147483647 → IsSupplied cs → length (started_bytes id cs) ≤ 2097152
unfolding reply_bytes ldap_result
answer_short id cs le s =
    let v = vector_value cs in
    let size = vector_size cs s in
    let code = enumerated 0 in
    let none = reply_form.octet_string [] in
    let few = integer_few 0 (omega arith) in
    let a = element_short 0x0a (shortest_integer (pos 0)) (omega arith) in
    let n = element_short 0x04 [] (omega arith) in
    let l1 = length-append (code ++ none) none in
    let l2 = length-append code none in
    let b = element_short 0x8b v (omega arith) in
    let result = code ++ none ++ none in
    let l0 = length-append result [] in
    let l3 = length-append (result ++ []) (element 0x8b v) in
    let c = element_short 0x78 (result ++ [] ++ element 0x8b v) (omega arith) in
    let f = integer_short id (omega arith) in
    let l4 = length-append (integer id) (element 0x78 (result ++ [] ++ element 0x8b v)) in
    let g = element_short 0x30 (integer id ++ element 0x78 (result ++ [] ++ element 0x8b v)) (omega arith) in
    omega arith

read_answer : (id : ℕ) (cs : List Csn) → IsSupplied cs → started_of (started_reply id cs) ≡ Ok cs
unfolding started_of
read_answer id cs s = let size = vector_size cs s in ap in_value (started_back cs s (omega arith))

pub answers_come_back : AnswersComeBack
answers_come_back id cs rest le s =
    (reply_back (started_reply id cs) rest (record { id = le; code = omega arith; within = answer_short id cs le s }), read_answer id cs s)
