use Rattle.std.proofs.Common.{sym, ap, ◌∙◌, arith}
use Rattle.std.specs.Ordering.{is_le}
use Rattle.change_log.proofs.Reach.{next_here, next_none}
use Rattle.change_log.proofs.index.next_of.Goals as goal
use Rattle.change_log.proofs.index.next_of.Goals.{else-place-limit-via-then-place-limit+else-is_le, else-place-limit-via-else-place-limit}

pub returns-then-is_le : goal.returns-then-is_le
returns-then-is_le c =
    let p = c.place_beyond-at.ensures in
    next_here c.args.index.now c.args.beyond c.args.limit c.place_beyond-at.result c.requires p.below p.above c.if-at-index.true c.if-place-limit.true
    (sym (c.is_le.ensures ∙ ap is_le c.compare.ensures) ∙ c.if-is_le.true)

pub returns-else-place-limit : goal.returns-else-place-limit
returns-else-place-limit c =
    let p = c.place_beyond-at.ensures in
    next_none c.args.index.now c.args.beyond c.args.limit c.place_beyond-at.result c.requires p.below p.above
    (λ l e le.
    elim c.else-place-limit.branch [
      | else-place-limit-via-then-place-limit+else-is_le w ↦ (let f = sym (w.is_le.ensures ∙ ap is_le w.compare.ensures) ∙ w.if-is_le.false in absurd cc)
      | else-place-limit-via-else-place-limit w ↦ w.if-place-limit.false e
    ])

pub returns-else-at-index : goal.returns-else-at-index
returns-else-at-index c =
    let p = c.place_beyond-at.ensures in
    next_none c.args.index.now c.args.beyond c.args.limit c.place_beyond-at.result c.requires p.below p.above (λ l e le. omega (arith, c.if-at-index.false))
