-- The stream of bytes, computed, and its laws.
use Rattle.std.specs.Prelude.{◌≡◌, ◌≢◌, ℕ, zero, suc, if◌then◌else◌, List, [], ◌∷◌, ◌++◌, length, drop, Result, Ok, Err}
use Rattle.ldap_types.specs.declared.request.Request.{Request}
use Rattle.ber_core.specs.Window.{Stop, More, Fault}
use Rattle.io_edge.specs.declared.machine.Fed.{Fed}
use Rattle.io_edge.specs.declared.machine.Fed.TheVariants.{Running, Unbound, BadBytes}
use Rattle.conn_core.specs.Stream.{first_request, is_unbind, IsStream}

pub record Stream : Type 0 where
  pub requests : List Request
  pub left : List ℕ
  pub fed : Fed

abbrev pub stops : List ℕ → Fed → Stream
stops bytes fed = record { requests = []; left = bytes; fed = fed }

abbrev pub behind_first : Request → Stream → Stream
behind_first r s = record { requests = r ∷ s.requests; left = s.left; fed = s.fed }

-- what stands behind the front is asked of `rest`, by the number of bytes of the front
abbrev pub stream_by : (ℕ → Stream) → List ℕ → Result (Request × ℕ) Stop → Stream
stream_by rest bytes (Ok (r, size)) = if is_unbind r.op then stops bytes Unbound else behind_first r (rest size)
stream_by rest bytes (Err More) = stops bytes Running
stream_by rest bytes (Err (Fault place why)) = stops bytes (BadBytes place)

-- no more requests than `most`; each has a byte at least
abbrev pub stream_within : ℕ → List ℕ → Stream
stream_within zero bytes = stops bytes Running
stream_within (suc most) bytes = stream_by (λ size. stream_within most (drop size bytes)) bytes (first_request bytes)

abbrev pub stream_of : List ℕ → Stream
stream_of bytes = stream_within (length bytes) bytes

-- ---- laws

-- the computed one is the stream, and no other is
pub record HasOneStream : Type 0 where
  pub is : (bytes : List ℕ) → IsStream bytes (stream_of bytes).requests (stream_of bytes).left (stream_of bytes).fed
  pub only : (bytes : List ℕ) (requests : List Request) (left : List ℕ) (fed : Fed) → IsStream bytes requests left fed → stream_of bytes ≡ record { requests = requests; left = left; fed = fed }

-- A stream may be cut anywhere: what is left of the first piece begins the next.
pub record MayBeCut : Type 0 where
  pub goes_on : (bytes more : List ℕ) (first others : List Request) (held left : List ℕ) (fed : Fed) → IsStream bytes first held Running → IsStream (held ++ more) others left fed → IsStream (bytes ++ more) (first ++ others) left fed
  pub has_ended : (bytes more : List ℕ) (requests : List Request) (left : List ℕ) (fed : Fed) → IsStream bytes requests left fed → fed ≢ Running → IsStream (bytes ++ more) requests (left ++ more) fed
