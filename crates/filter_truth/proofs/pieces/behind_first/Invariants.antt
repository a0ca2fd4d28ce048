use Rattle.std.proofs.Common.{◌≡◌, drop}
use Rattle.filter_truth.specs.Behind.{behind_first}
use Rattle.filter_truth.proofs.pieces.behind_first.Given as goal

abbrev pub invariant-loop-at : goal.invariant-loop-at
invariant-loop-at l = behind_first l.text l.piece ≡ behind_first (drop l.at l.text) l.piece
