use Rattle.std.proofs.Common.{◌≡◌, drop}
use Rattle.filter_truth.specs.Pieces.{in_order}
use Rattle.filter_truth.proofs.pieces.in_order.Given as goal

abbrev pub invariant-loop-piece : goal.invariant-loop-piece
invariant-loop-piece l = in_order l.middle l.last l.text ≡ in_order (drop l.piece-index l.middle) l.last l.rest
