-- The write that a `start` brings: one whole message.
use Rattle.std.specs.Prelude.{ℕ, ◌==◌, length, List, Option, Some, None, Result, Ok, Err, if◌then◌else◌}
use Rattle.ldap_types.specs.declared.request.Request.{Request}
use Rattle.ber_core.specs.Window.{Stop}
use Rattle.ldap_requests.specs.Grammar.{request_at}
use Rattle.conn_core.specs.Stream.{message_limit}

-- the request, where its message is all of the bytes
abbrev pub whole_request : ℕ → Result (Request × ℕ) Stop → Option Request
whole_request size (Ok (request, n)) = if n == size then Some request else None
whole_request size (Err stop) = None

-- the request that the bytes spell
unfoldable pub request_of : List ℕ → Option Request
request_of bytes = whole_request (length bytes) (request_at message_limit bytes)
