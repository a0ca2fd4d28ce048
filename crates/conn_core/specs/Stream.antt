-- What a stream of bytes makes whole, in whatever pieces it comes (RFC 4511, section 5.2).
use Rattle.std.specs.Prelude.{◌≡◌, ℕ, Bool, true, false, List, [], ◌∷◌, ◌++◌, length, Result, Ok, Err}
use Rattle.ldap_types.specs.declared.request.Request.{Request}
use Rattle.ldap_types.specs.declared.request.Op.{Op}
use Rattle.ldap_types.specs.declared.request.Op.TheVariants as op
use Rattle.ber_core.specs.declared.fault.NotLdapWhy.{NotLdapWhy}
use Rattle.ber_core.specs.Window.{Stop, More, Fault}
use Rattle.ldap_requests.specs.Grammar.{request_at}
use Rattle.io_edge.specs.declared.machine.Fed.{Fed}
use Rattle.io_edge.specs.declared.machine.Fed.TheVariants.{Running, Unbound, BadBytes, Closed}

-- how many bytes a message may have
abbrev pub message_limit : ℕ
message_limit = 2097152

-- the request at the front of the bytes, within that limit, with its size; or why none is read there
unfoldable pub first_request : List ℕ → Result (Request × ℕ) Stop
first_request bytes = request_at message_limit bytes

abbrev pub is_unbind : Op → Bool
is_unbind op.Unbind = true
is_unbind _ = false

-- The bytes begin with these requests, one behind the other, and none of them is an unbind. These bytes are left.
abbrev pub BeginsWith : List ℕ → List Request → List ℕ → Type 0
BeginsWith bytes [] left = bytes ≡ left
BeginsWith bytes (r ∷ rs) left =
    (first others : List ℕ) × (bytes ≡ first ++ others) × (first_request bytes ≡ Ok (r, length first)) × (is_unbind r.op ≡ false) × BeginsWith others rs left

-- What stands at the front of the bytes that are left: no whole request yet, an unbind, or a fault in this place.
abbrev pub EndsSo : List ℕ → Fed → Type 0
EndsSo left Running = first_request left ≡ Err More
EndsSo left Unbound = (r : Request) × (size : ℕ) × (first_request left ≡ Ok (r, size)) × (is_unbind r.op ≡ true)
EndsSo left (BadBytes place) = (why : NotLdapWhy) × (first_request left ≡ Err (Fault place why))
EndsSo left Closed = ⊥

-- THE STREAM: these are its whole requests, in order, up to an unbind, a fault, or a rest that is no whole request yet.
pub record IsStream (bytes : List ℕ) (requests : List Request) (left : List ℕ) (fed : Fed) : Type 0 where
  pub begins : BeginsWith bytes requests left
  pub ends : EndsSo left fed
