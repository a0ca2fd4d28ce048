use Rattle.std.proofs.Common.{ap, ◌∙◌}
use Rattle.filter_truth.specs.Behind.{behind}
use Rattle.filter_truth.proofs.Greedy.{place_next, rest_of}
use Rattle.filter_truth.proofs.pieces.behind_first.Goals as goal

pub loop-at-preserved : goal.loop-at-preserved
loop-at-preserved c =
    c.loop-at.invariant
    ∙ place_next c.args.piece.now c.args.text.now c.loop-at.at c.loop-at-test.true (c.in-None.ensures ∙ ap (λ text. behind text c.args.piece.now) (rest_of c.args.text.now c.loop-at.at))
