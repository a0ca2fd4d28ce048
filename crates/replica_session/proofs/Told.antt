-- The bind as a request, and answers with 0.
use Rattle.std.proofs.Common.{◌≡◌, ◌≤◌, ◌<◌, ◌^◌, ℕ, pos, [], ◌++◌, length, codes, Option, Some, None, Ok, Err, refl, sym, ap, ◌∙◌, arith, append-nil, append_assoc, length-append}
use Rattle.ldap_types.specs.declared.reply.LdapResult.{LdapResult}
use Rattle.vector_core.specs.declared.answers.ApplyFault.{ApplyFault}
use Rattle.vector_core.specs.declared.answers.ApplyFault.TheVariants as apply
use Rattle.vector_core.specs.declared.answers.AcquireFault.{AcquireFault}
use Rattle.vector_core.specs.declared.answers.AcquireFault.TheVariants as acquire
use Rattle.ldap_requests.specs.Spelling.{MessageId, IsOp, IsControl, Spells}
use Rattle.ldap_requests.proofs.CompleteMessage.{spelled_is_read}
use Rattle.ber_core.specs.Element.{element}
use Rattle.ber_core.specs.Number.{shortest_integer}
use Rattle.ber_core.specs.Spelling.{Each, Octets, Integer}
use Rattle.ber_core.proofs.Written.{IsElement-element}
use Rattle.repl_wire.specs.Form.{integer, octet_string}
use Rattle.repl_wire.proofs.Back.{written, integer_is, integer_small}
use Rattle.repl_wire.proofs.Requests.{nothing_unknown, left_out}
use Rattle.repl_wire.proofs.Sizes.{element_short, integer_short}
use Rattle.replica_session.specs.Messages.{supplier_name, supplier_password, bind_parts, bind_bytes, bind_request}
use Rattle.replica_session.specs.Answers.{apply_result, acquire_result, malformed, not_holder, wrong_suffix, same_id}
use Rattle.replica_session.specs.Laws.{BindIsRead, ZeroIsTaken, RefusalIsTold}

-- how many bytes there are at most
parts_size : length bind_parts ≤ 64
unfolding bind_parts supplier_name supplier_password
parts_size =
    let version = integer 3 in
    let name = octet_string (codes "cn=supplier") in
    let password = element 0x80 (codes "repl") in
    let a = integer_short 3 (omega arith) in
    let b = element_short 0x04 (codes "cn=supplier") (omega arith) in
    let c = element_short 0x80 (codes "repl") (omega arith) in
    let l = length-append version name in
    let m = length-append (version ++ name) password in
    omega arith

body_size : length (integer 1 ++ element 0x60 bind_parts) ≤ 100
body_size =
    let p = parts_size in
    let a = integer_short 1 (omega arith) in
    let b = element_short 0x60 bind_parts (omega arith) in
    let l = length-append (integer 1) (element 0x60 bind_parts) in
    omega arith

bind_fits : length bind_bytes ≤ 2097152
unfolding bind_bytes
bind_fits =
    let p = body_size in
    let a = element_short 0x30 (integer 1 ++ element 0x60 bind_parts) (omega arith) in
    omega arith

parts_small : length bind_parts < 2 ^ 64
parts_small = let p = parts_size in omega arith

-- the bytes of the operation spell it
bind_op : IsOp (element 0x60 bind_parts) bind_request.op
unfolding bind_parts supplier_name supplier_password
bind_op =
    let version = integer 3 in
    let name = octet_string (codes "cn=supplier") in
    let password = element 0x80 (codes "repl") in (
      version ++ name ++ password,
      IsElement-element 0x60 (version ++ name ++ password) (λ e. absurd cc) parts_small,
      (
        version,
        name ++ password,
        append_assoc version name password,
        written Integer 0x02 (shortest_integer (pos 3)) (pos 3) (λ e. absurd cc) (integer_small 3 (omega arith)) (integer_is 3 (omega arith)),
        (
          name,
          password,
          refl,
          written Octets 0x04 (codes "cn=supplier") (codes "cn=supplier") (λ e. absurd cc) (omega arith) refl,
          (password, [], sym (append-nil password), written Octets 0x80 (codes "repl") (codes "repl") (λ e. absurd cc) (omega arith) refl, nothing_unknown),
        ),
      ),
    )

-- and those of the message the request
bind_spells : Spells bind_bytes bind_request
unfolding bind_bytes
bind_spells =
    let op = element 0x60 bind_parts in
    let body = integer 1 ++ op in (
      body,
      IsElement-element 0x30 body (λ e. absurd cc) (let p = body_size in omega arith),
      (
        None,
        refl,
        (
          integer 1,
          op,
          refl,
          written MessageId 0x02 (shortest_integer (pos 1)) 1 (λ e. absurd cc) (integer_small 1 (omega arith)) (integer_is 1 (omega arith), omega arith, omega arith),
          (op, [], sym (append-nil op), bind_op, left_out 0xa0 (Each IsControl)),
        ),
      ),
    )

pub bind_is_read : BindIsRead
bind_is_read rest = spelled_is_read 2097152 bind_bytes rest bind_request bind_spells bind_fits

code_of : Option LdapResult → ℕ
code_of (Some told) = told.code.number
code_of None = 1

-- the code in the table is the one that was told
same_code : (x : Option LdapResult) (told : LdapResult) → x ≡ Some told → told.code.number ≡ 0 → code_of x ≡ 0
unfolding code_of
same_code x told e z = ap code_of e ∙ z

apply_code : (fault : ApplyFault) → code_of (apply_result (Err fault)) ≡ 0 → ⊥
unfolding code_of malformed not_holder
apply_code apply.NoMemory e = absurd (omega (arith, e))
apply_code apply.NotHolder e = absurd (omega (arith, e))
apply_code (apply.Malformed why) e = absurd (omega (arith, e))
apply_code (apply.OwnUnknown csn) e = absurd (omega (arith, e))
apply_code (apply.Skew csn now) e = absurd (omega (arith, e))
apply_code (apply.Gap have prev) e = absurd (omega (arith, e))
apply_code (apply.Missing id) e = absurd (omega (arith, e))
apply_code apply.KeeperFault e = absurd (omega (arith, e))

acquire_code : (fault : AcquireFault) → code_of (acquire_result fault) ≡ 0 → ⊥
unfolding code_of wrong_suffix same_id
acquire_code acquire.NoMemory e = absurd (omega (arith, e))
acquire_code acquire.WrongSuffix e = absurd (omega (arith, e))
acquire_code acquire.SameId e = absurd (omega (arith, e))
acquire_code (acquire.Busy rid) e = absurd (omega (arith, e))
acquire_code (acquire.Skew csn now) e = absurd (omega (arith, e))

pub zero_is_taken : ZeroIsTaken
zero_is_taken (Ok applied) told e z = (applied, refl)
zero_is_taken (Err fault) told e z = absurd (apply_code fault (same_code (apply_result (Err fault)) told e z))

pub refusal_is_told : RefusalIsTold
refusal_is_told fault told e z = acquire_code fault (same_code (acquire_result fault) told e z)
