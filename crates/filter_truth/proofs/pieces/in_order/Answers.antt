use Rattle.std.proofs.Common.{ap, ◌∙◌}
use Rattle.filter_truth.specs.Behind.{behind_first}
use Rattle.filter_truth.proofs.Greedy.{piece_lacks, piece_stands}
use Rattle.filter_truth.proofs.pieces.in_order.Goals as goal

pub returns-in-None : goal.returns-in-None
returns-in-None c =
    piece_lacks c.args.middle.now c.args.last.now c.args.text.now c.loop-piece.rest.now c.loop-piece.piece-index c.piece-item.result c.loop-piece-test.true c.loop-piece.invariant c.piece-item.is
    (c.in-None.ensures ∙ ap (behind_first c.loop-piece.rest.now) c.as_slice.ensures)

pub loop-piece-preserved : goal.loop-piece-preserved
loop-piece-preserved c =
    piece_stands c.args.middle.now c.args.last.now c.args.text.now c.loop-piece.rest.now c.loop-piece.piece-index c.piece-item.result c.loop-piece-test.true c.loop-piece.invariant c.piece-item.is c.in-Some.more.now
    (c.in-Some.ensures ∙ ap (behind_first c.loop-piece.rest.now) c.as_slice.ensures)
