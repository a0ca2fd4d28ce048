-- Rows as they are kept: under kind 1 and the ten bytes of the CSN.
use Rattle.std.specs.Prelude.{◌==◌, Result, Ok, Err, if◌then◌else◌}
use Rattle.keeper_core.specs.declared.row.Row.{Row}
use Rattle.repl_data.specs.declared.change.Change.{Change}
use Rattle.repl_data.specs.Order.{bytes_eq}
use Rattle.repl_data.specs.Text.{csn_bytes}
use Rattle.row_bytes.specs.declared.fault.RowWhy.TheVariants as why
use Rattle.row_bytes.specs.Form.{row_of}
use Rattle.row_bytes.specs.Place.{Fault, At, ◌>>=◌}
use Rattle.row_bytes.specs.Grammar.{row_at}

-- the row that a change is kept as
abbrev pub stored : Change → Row
stored c = record { key = record { kind = 1; key = csn_bytes c.csn }; bytes = row_of c }

-- whether a row stands under the kind and the key of this change
abbrev pub belongs : Row → Change → Result (Unit {0}) Fault
belongs row c =
    if row.key.kind == 1 then (if bytes_eq row.key.key (csn_bytes c.csn) then Ok tt else Err (At 0 why.Key))
    else Err (At 0 why.Kind)

-- The change that a kept row is of. Its kind and its key are looked at once its bytes were read.
unfoldable pub change_of : Row → Result Change Fault
change_of row = do
  c ← row_at row.bytes
  own ← belongs row c
  Ok c
