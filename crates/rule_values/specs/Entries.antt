-- The entries of a map from keys to spellings, as values.
use Rattle.std.specs.Prelude.{ℕ, List, map}
use Rattle.repl_data.specs.declared.change.Val.{Val}

abbrev pub val_of : List ℕ × List ℕ → Val
val_of e = record { key = e.0; spelled = e.1 }

abbrev pub vals_of : List (List ℕ × List ℕ) → List Val
vals_of es = map val_of es
