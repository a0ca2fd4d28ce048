-- What the reader finds at the front of a stream.
use Rattle.std.specs.Prelude.{◌≡◌, ◌<◌, ◌≤◌, ℕ, false, List, length, Ok}
use Rattle.conn_core.specs.declared.first.First.{First}
use Rattle.conn_core.specs.declared.first.First.TheVariants.{Next, Ends}
use Rattle.conn_core.specs.Stream.{first_request, is_unbind, EndsSo}

-- a request with its size, and no unbind; or none that is carried out
abbrev pub IsFirst : List ℕ → First → Type 0
IsFirst bytes (Next request size) =
    (first_request bytes ≡ Ok (request, size)) × (is_unbind request.op ≡ false) × (0 < size) × (size ≤ length bytes)
IsFirst bytes (Ends fed) = EndsSo bytes fed
