-- What the reader in code gives, in the words of the reading.
use Rattle.std.specs.Prelude.{◌≡◌, Result, Ok, Err}
use Rattle.row_bytes.specs.declared.fault.RowFault.{RowFault}
use Rattle.row_bytes.specs.declared.fault.RowFault.TheVariants as fault
use Rattle.row_bytes.specs.declared.cursor.Cursor.{Cursor}
use Rattle.row_bytes.specs.Place.{Fault, At, Place}

abbrev pub place_of : Cursor → Place
place_of c = record { start = c.start; at = c.at; bytes = c.bytes.now }

-- what stopped the code is the fault of the reading, unless memory ran out
abbrev pub Fails : {Y : Type 0} → RowFault → Result Y Fault → Type 0
Fails fault.NoMemory read = Unit {0}
Fails (fault.Bad place why) read = read ≡ Err (At place why)

-- what the code gave, seen by `view`, is what the reading gives, unless memory ran out
abbrev pub Gives : {X Y : Type 0} → (X → Y) → Result X RowFault → Result Y Fault → Type 0
Gives view (Ok x) read = read ≡ Ok (view x)
Gives view (Err e) read = Fails e read

abbrev pub pair : Cursor × Cursor → Place × Place
pair p = (place_of p.0, place_of p.1)

abbrev pub with_place : {X : Type 0} → X × Cursor → X × Place
with_place p = (p.0, place_of p.1)
