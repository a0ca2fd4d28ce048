use Rattle.std.proofs.Common.{◌∙◌}
use Rattle.keeper_core.proofs.Placed.{replaced, inserted}
use Rattle.keeper_core.proofs.rows.put_row.Goals as goal

pub returns-then-stands_at-clause-value : goal.returns-then-stands_at-clause-value
returns-then-stands_at-clause-value c =
    replaced c.args.rows.now.items c.as_slice.result.now c.as_slice-2.result.now c.args.row c.place_of-at.result c.as_slice.ensures.value c.as_slice-2.ensures.value c.place_of-at.ensures.below (c.stands_at.ensures.0 c.if-stands_at.true)

pub returns-else-stands_at-clause-value : goal.returns-else-stands_at-clause-value
returns-else-stands_at-clause-value c =
    let p = c.place_of-at.ensures in
    let items = rw c.unwrap.ensures at c.insert.ensures.items in
    items ∙ inserted c.args.rows.now.items c.as_slice.result.now c.as_slice-2.result.now c.args.row c.place_of-at.result c.as_slice.ensures.value c.as_slice-2.ensures.value p.within p.below p.above c.if-stands_at.ensures.1
