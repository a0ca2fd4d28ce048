-- The bytes of an extended request spell it, so they are read as it.
use Rattle.std.proofs.Common.{◌≡◌, ℕ, ◌≤◌, ◌<◌, ◌^◌, pos, List, [], ◌++◌, length, Some, None, Ok, refl, sym, arith, length-append, append-nil}
use Rattle.ber_core.specs.Element.{element}
use Rattle.ber_core.specs.Number.{shortest_integer}
use Rattle.ber_core.proofs.Written.{IsElement-element}
use Rattle.ber_core.specs.Spelling.{ThenMaybe, Each, none, Unknown, Octets}
use Rattle.ldap_types.specs.declared.request.Op.TheVariants.{Extended}
use Rattle.ldap_requests.specs.Grammar.{request_at}
use Rattle.ldap_requests.specs.Spelling.{MessageId, IsOp, IsControl, Spells}
use Rattle.ldap_requests.proofs.CompleteMessage.{spelled_is_read}
use Rattle.repl_wire.specs.Form.{integer, extended, extended_bytes}
use Rattle.repl_wire.specs.Laws.{IsRequestId}
use Rattle.repl_wire.proofs.Back.{written, longer, integer_is, integer_small}

-- nothing follows
pub nothing_unknown : Unknown []
nothing_unknown = ([], none)

pub left_out : {A : Type 0} (tag : ℕ) (Q : List ℕ → A → Type 0) → ThenMaybe tag Q None Unknown []
left_out tag Q = ([], [], refl, (refl, λ e. absurd cc), nothing_unknown)

extended_op : (name value : List ℕ) → length (element 0x80 name ++ element 0x81 value) < 2 ^ 64 → IsOp (element 0x77 (element 0x80 name ++ element 0x81 value)) (Extended name (Some value))
extended_op name value small =
    let n = element 0x80 name in
    let v = element 0x81 value in
    let len = length-append n v in
    let one = longer 0x80 name in
    let two = longer 0x81 value in
    (n ++ v, IsElement-element 0x77 (n ++ v) (λ e. absurd cc) small, (n, v, refl, written Octets 0x80 name name (λ e. absurd cc) (omega arith) refl, (v, [], sym (append-nil v), written Octets 0x81 value value (λ e. absurd cc) (omega arith) refl, nothing_unknown)))

extended_spells : (id : ℕ) (name value : List ℕ) → IsRequestId id → length (extended_bytes id name value) < 2 ^ 64 → Spells (extended_bytes id name value) (extended id name value)
unfolding extended_bytes
extended_spells id name value i small =
    let parts = element 0x80 name ++ element 0x81 value in
    let op = element 0x77 parts in
    let body = integer id ++ op in
    let most = i.most in
    let one = longer 0x30 body in
    let len = length-append (integer id) op in
    let two = longer 0x77 parts in (
      body,
      IsElement-element 0x30 body (λ e. absurd cc) (omega arith),
      (
        None,
        refl,
        (
          integer id,
          op,
          refl,
          written MessageId 0x02 (shortest_integer (pos id)) id (λ e. absurd cc) (integer_small id (omega arith)) (integer_is id (omega arith), i.from_1, most),
          (op, [], sym (append-nil op), extended_op name value (omega arith), left_out 0xa0 (Each IsControl)),
        ),
      ),
    )

pub extended_is_read : (id : ℕ) (name value rest : List ℕ) → IsRequestId id → length (extended_bytes id name value) ≤ 2097152
    → request_at 2097152 (extended_bytes id name value ++ rest) ≡ Ok (extended id name value, length (extended_bytes id name value))
extended_is_read id name value rest i le = spelled_is_read 2097152 (extended_bytes id name value) rest (extended id name value) (extended_spells id name value i (omega arith)) le
