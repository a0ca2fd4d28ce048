-- The messages of a session that are no session messages of their own, and the numbers that all of them have.
use Rattle.std.specs.Prelude.{ℕ, ◌+◌, nat_lt, pos, List, [], ◌++◌, codes, if◌then◌else◌}
use Rattle.ber_core.specs.Element.{element}
use Rattle.ldap_types.specs.declared.request.Request.{Request}
use Rattle.ldap_types.specs.declared.request.Op.TheVariants.{Bind}
use Rattle.ldap_types.specs.declared.request.Auth.TheVariants.{Simple}
use Rattle.repl_wire.specs.Form.{octet_string, integer}

-- ---- the bind (RFC 4511, section 4.2)

unfoldable pub supplier_name : List ℕ
supplier_name = codes "cn=supplier"

unfoldable pub supplier_password : List ℕ
supplier_password = codes "repl"

-- version 3, and a simple bind
unfoldable pub bind_parts : List ℕ
bind_parts = integer 3 ++ octet_string supplier_name ++ element 0x80 supplier_password

unfoldable pub bind_bytes : List ℕ
bind_bytes = element 0x30 (integer 1 ++ element 0x60 bind_parts)

-- the request that it is
abbrev pub bind_request : Request
bind_request = record { id = 1; op = Bind (record { version = pos 3; name = codes "cn=supplier"; auth = Simple (codes "repl") }); controls = [] }

-- ---- numbers

-- the number of the next message: after the greatest one they go on at 3
abbrev pub next_id : ℕ → ℕ
next_id id = if nat_lt id 2147483647 then id + 1 else 3
