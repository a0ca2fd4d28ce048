-- The value of the control of an update, read element by element from the front.
use Rattle.std.specs.Prelude.{ℕ, ◌==◌, bytes_eq, List, ◌++◌, length, slice_range, Option, Some, None, Result, Ok, if◌then◌else◌}
use Rattle.ber_core.specs.Window.{Stop, Window, Reading, ◌>>=◌, or_shape, octets, element, ended, many, optional}
use Rattle.repl_data.specs.declared.csn.Csn.{Csn}
use Rattle.repl_data.specs.declared.csn.Uid.{Uid}
use Rattle.repl_data.specs.Text.{read_csn, uid_text}
use Rattle.repl_wire.specs.declared.control.Fields.{Fields}
use Rattle.repl_wire.specs.declared.control.Dropped.{Dropped}
use Rattle.repl_wire.specs.Value.{alone}

-- ---- printed ids

-- the 20 digits of a printed id
abbrev pub digits_of : List ℕ → List ℕ
digits_of text = slice_range text 0 8 ++ slice_range text 9 17 ++ slice_range text 18 22

abbrev pub if_printed : List ℕ → Option Csn → Option Uid
if_printed text (Some c) = if bytes_eq text (uid_text (record { csn = c })) then Some (record { csn = c }) else None
if_printed text None = None

-- the id that a text is printed from
unfoldable pub uid_of : List ℕ → Option Uid
uid_of text = if length text == 35 then if_printed text (read_csn (digits_of text)) else None

-- ---- contents

-- 20 digits of either case
unfoldable pub csn_digits : Window → Result Csn Stop
csn_digits w = octets w >>= λ text. or_shape w.start (read_csn text)

unfoldable pub printed_id : Window → Result Uid Stop
printed_id w = octets w >>= λ text. or_shape w.start (uid_of text)

-- a set of one value
unfoldable pub one_value : Window → Result (List ℕ) Stop
one_value w = do
  value ← element 0x04 octets w
  over ← ended value.1
  Ok value.0

unfoldable pub dropped_inside : Window → Result Dropped Stop
dropped_inside w = do
  name ← element 0x04 octets w
  value ← element 0x31 one_value name.1
  over ← ended value.1
  Ok (record { name = name.0; spelled = value.0 })

abbrev pub dropped_here : Window → Reading Dropped
dropped_here = element 0x30 dropped_inside

unfoldable pub control_inside : Window → Result Fields Stop
control_inside w = do
  csn ← element 0x04 csn_digits w
  prev ← element 0x04 csn_digits csn.1
  parent ← optional 0x80 printed_id prev.1
  name ← optional 0x81 octets parent.1
  dropped ← optional 0xa2 (many dropped_here) name.1
  over ← ended dropped.1
  Ok (record { csn = csn.0; prev = prev.0; parent = parent.0; name = name.0; dropped = dropped.0 })

abbrev pub control_at : List ℕ → Result Fields Stop
control_at bytes = alone (element 0x30 control_inside) bytes
