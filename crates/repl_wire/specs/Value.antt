-- Values of messages, read element by element from the front. All bytes of a value are there; lengths and
-- integers may be longer than needed, and nothing may follow the last element.
use Rattle.std.specs.Prelude.{ℕ, zero, suc, ◌==◌, ◌&&◌, ◌||◌, nat_lt, ℤ, pos, negsuc, List, [], ◌∷◌, length, Option, Some, None, Result, Ok, Err, if◌then◌else◌}
use Rattle.ber_core.specs.declared.fault.NotLdapWhy.TheVariants.{Shape}
use Rattle.ber_core.specs.Window.{Stop, Fault, Window, Reading, ◌>>=◌, octets, int, element, ended, ranged}
use Rattle.repl_data.specs.declared.csn.Csn.{Csn}
use Rattle.repl_data.specs.Text.{csn_of}
use Rattle.vector_core.specs.declared.answers.Start.{Start}
use Rattle.repl_wire.specs.declared.session.End.{End}

-- the place at the front of a value
abbrev pub front_of : List ℕ → Window
front_of bytes = record { start = 0; at = 0; left = length bytes; bytes = bytes }

-- what stands there, and nothing behind it
unfoldable pub alone : {A : Type 0} → (Window → Reading A) → List ℕ → Result A Stop
alone piece bytes = do
  x ← piece (front_of bytes)
  over ← ended x.1
  Ok x.0

-- a number in this range
abbrev pub between : ℕ → ℕ → ℤ → Option ℕ
between least most (pos n) = if nat_lt n least || nat_lt most n then None else Some n
between least most (negsuc n) = None

unfoldable pub replica_id : ℕ → ℕ → Window → Result ℕ Stop
replica_id least most w = int w >>= λ z. ranged Shape w.start (between least most z)

-- ---- vectors

-- the CSN of ten bytes, of a supplier above the one before
abbrev pub csn_above : ℕ → ℕ → List ℕ → Result Csn Stop
csn_above start last bytes =
    if length bytes == 10 && (nat_lt last (csn_of bytes).rid && nat_lt (csn_of bytes).rid 65535) then Ok (csn_of bytes)
    else Err (Fault start Shape)

unfoldable pub csn_inside : ℕ → Window → Result Csn Stop
csn_inside last w = octets w >>= csn_above w.start last

-- as many as there are, each above the one before
unfoldable pub csns_from : ℕ → ℕ → Window → Result (List Csn) Stop
csns_from last zero w = Ok []
csns_from last (suc more) w =
    if w.left == 0 then Ok [] else (element 0x04 (csn_inside last) w >>= λ c. csns_from c.0.rid more c.1 >>= λ others. Ok (c.0 ∷ others))

abbrev pub vector_inside : Window → Result (List Csn) Stop
vector_inside w = csns_from 0 w.left w

abbrev pub vector_here : Window → Reading (List Csn)
vector_here = element 0x30 vector_inside

-- ---- values

unfoldable pub start_inside : Window → Result Start Stop
start_inside w = do
  suffix ← element 0x04 octets w
  rid ← element 0x02 (replica_id 1 65534) suffix.1
  front ← vector_here rid.1
  over ← ended front.1
  Ok (record { suffix = suffix.0; rid = rid.0; front = front.0 })

abbrev pub start_at : List ℕ → Result Start Stop
start_at bytes = alone (element 0x30 start_inside) bytes

abbrev pub started_at : List ℕ → Result (List Csn) Stop
started_at bytes = alone vector_here bytes

-- an end may name any replica
unfoldable pub end_at : List ℕ → Result End Stop
end_at bytes = alone (element 0x02 (replica_id 0 65535)) bytes >>= λ n. Ok (record { rid = n })
