-- What stands behind a piece, where it stands for the first time.
use Rattle.std.specs.Prelude.{ℕ, List, [], ◌∷◌, length, drop, Option, Some, None, if◌then◌else◌}
use Rattle.filter_truth.specs.Pieces.{begins}

abbrev pub behind : List ℕ → List ℕ → Option (List ℕ)
behind text piece = if begins text piece then Some (drop (length piece) text) else None

abbrev pub behind_first : List ℕ → List ℕ → Option (List ℕ)
behind_first [] piece = behind [] piece
behind_first (x ∷ text) piece = if begins (x ∷ text) piece then Some (drop (length piece) (x ∷ text)) else behind_first text piece
