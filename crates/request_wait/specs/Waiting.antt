-- What a place in the bytes says of the message.
use Rattle.std.specs.Prelude.{◌≡◌, ℕ, List, ◌++◌}
use Rattle.ber_core.specs.Window.{◌>>=◌}
use Rattle.ldap_requests.specs.Grammar.{request_at}
use Rattle.request_wait.specs.declared.waiting.Waiting.{Waiting}
use Rattle.request_wait.specs.Inside.{outcome}
use Rattle.request_wait.specs.Place.{read_from, read_all}

-- THE PLACE IS IN THESE BYTES: however they go on, reading a request from their front comes to what reading on from the place comes to.
unfoldable pub IsPlaceIn : Waiting → List ℕ → Type 0
IsPlaceIn w bytes = (more : List ℕ) → outcome (request_at 2097152 (bytes ++ more)) ≡ (read_from w.here (bytes ++ more) >>= λ u. read_all w.around (bytes ++ more))

-- a place in some bytes is one in these bytes with others behind them
abbrev pub StaysInBytes : Type 0
StaysInBytes = (w : Waiting) (bytes more : List ℕ) → IsPlaceIn w bytes → IsPlaceIn w (bytes ++ more)
