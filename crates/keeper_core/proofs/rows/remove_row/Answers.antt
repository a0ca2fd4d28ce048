use Rattle.std.proofs.Common.{◌∙◌, arith}
use Rattle.keeper_core.proofs.Placed.{taken, untouched}
use Rattle.keeper_core.proofs.rows.remove_row.Goals as goal

pub remove-requires : goal.remove-requires
remove-requires c =
    let h = c.stands_at.ensures.0 c.if-stands_at.true in
    let n = c.as_slice-2.ensures.len in omega (arith, h.0)

pub returns-then-stands_at-clause-value : goal.returns-then-stands_at-clause-value
returns-then-stands_at-clause-value c =
    c.remove.ensures.items
    ∙ taken c.args.rows.now.items c.as_slice.result.now c.as_slice-2.result.now c.args.key c.place_of-at.result c.as_slice.ensures.value c.as_slice-2.ensures.value c.requires c.place_of-at.ensures.below (c.stands_at.ensures.0 c.if-stands_at.true)

pub returns-else-stands_at-clause-value : goal.returns-else-stands_at-clause-value
returns-else-stands_at-clause-value c =
    let p = c.place_of-at.ensures in
    untouched c.args.rows.now.items c.as_slice.result.now c.as_slice-2.result.now c.args.key c.place_of-at.result c.as_slice.ensures.value c.as_slice-2.ensures.value c.requires p.within p.below p.above c.if-stands_at.ensures.1
