use Rattle.std.proofs.Common.{◌≡◌, true, false, sym, ap, ◌∙◌, arith}
use Rattle.cow_map.proofs.Starts.{row_from, row_before}
use Rattle.cow_map.proofs.start.row_from.Goals as goal

pub loop-low-preserved-then-is_from : goal.loop-low-preserved-then-is_from
loop-low-preserved-then-is_from g c =
    let at : g.S.Start.from c.args.start.now c.index-rows-middle.result.0 ≡ true = ap (g.S.Start.from c.args.start.now) (sym c.key.ensures) ∙ (sym c.is_from.ensures ∙ c.if-is_from.true) in
    (omega arith, omega arith, c.loop-low.invariant.2, row_from g.K.Ord.cmp (g.S.Start.from c.args.start.now) c.requires.upward _ _ c.index-rows-middle.result c.requires.rising (omega arith) c.index-rows-middle.is at)

pub loop-low-preserved : goal.loop-low-preserved
loop-low-preserved g c =
    let at : g.S.Start.from c.args.start.now c.index-rows-middle.result.0 ≡ false = ap (g.S.Start.from c.args.start.now) (sym c.key.ensures) ∙ (sym c.is_from.ensures ∙ c.if-is_from.false) in
    (omega arith, omega arith, row_before g.K.Ord.cmp (g.S.Start.from c.args.start.now) c.requires.upward _ _ c.index-rows-middle.result c.requires.rising (omega arith) c.index-rows-middle.is at, c.loop-low.invariant.3)
