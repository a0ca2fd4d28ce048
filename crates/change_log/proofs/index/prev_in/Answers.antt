use Rattle.std.proofs.Common.{◌-◌, ◌<◌, sym, arith}
use Rattle.change_log.proofs.Places.{prev_here, prev_none}
use Rattle.change_log.proofs.index.prev_in.Goals as goal
use Rattle.change_log.proofs.index.prev_in.Goals.{else-at-gt0-via-then-at-gt0+else-index-at, else-at-gt0-via-else-at-gt0}

pub returns-then-index-at : goal.returns-then-index-at
returns-then-index-at c =
    let p = c.place_of-at.ensures in
    let z : 0 < c.place_of-at.result = c.if-at-gt0.true in
    let w = p.within in
    sym (prev_here c.args.index.now c.args.csn (c.place_of-at.result - 1) c.requires (omega arith)
    (p.below (c.place_of-at.result - 1) (omega arith)) (λ k l m. p.above k (omega arith) m) c.if-index-at.true)

pub returns-else-at-gt0 : goal.returns-else-at-gt0
returns-else-at-gt0 c =
    let p = c.place_of-at.ensures in
    sym (prev_none c.args.index.now c.args.csn c.place_of-at.result c.requires p.within p.below p.above
    (λ h. elim c.else-at-gt0.branch [ else-at-gt0-via-then-at-gt0+else-index-at w ↦ w.if-index-at.false | else-at-gt0-via-else-at-gt0 w ↦ absurd (omega (arith, w.if-at-gt0.false)) ]))
