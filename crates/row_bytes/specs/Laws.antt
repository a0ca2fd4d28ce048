-- What changes and their rows are to one another.
use Rattle.std.specs.Prelude.{◌≡◌, ℕ, List, [], ◌++◌, Ok}
use Rattle.repl_data.specs.declared.csn.Csn.{Csn}
use Rattle.repl_data.specs.declared.change.Change.{Change}
use Rattle.repl_data.specs.Order.{bytes_cmp, csn_cmp}
use Rattle.repl_data.specs.Text.{csn_bytes, IsInRange}
use Rattle.row_bytes.specs.Form.{row_of, IsChangeInRange}
use Rattle.row_bytes.specs.Grammar.{row_at}
use Rattle.row_bytes.specs.Stored.{stored, change_of}

-- what is written is read back
abbrev pub IsReadBack : Type 0
IsReadBack = (c : Change) → IsChangeInRange c → row_at (row_of c) ≡ Ok c

-- and so is what is kept
abbrev pub IsFoundAgain : Type 0
IsFoundAgain = (c : Change) → IsChangeInRange c → change_of (stored c) ≡ Ok c

-- A row is that of one change, and no row has another at its front: neither a row without its last
-- bytes nor one with bytes behind it is a row.
abbrev pub NoneIsPrefix : Type 0
NoneIsPrefix = (a b : Change) (more : List ℕ) → IsChangeInRange a → IsChangeInRange b → row_of a ++ more ≡ row_of b → (more ≡ []) × (a ≡ b)

-- keys are in the order of their CSNs
abbrev pub AreInOrder : Type 0
AreInOrder = (a b : Csn) → IsInRange a → IsInRange b → bytes_cmp (csn_bytes a) (csn_bytes b) ≡ csn_cmp a b
