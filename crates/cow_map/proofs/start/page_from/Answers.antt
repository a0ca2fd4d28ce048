use Rattle.std.proofs.Common.{arith, sym, ◌∙◌}
use Rattle.cow_map.proofs.Starts.{page_from, page_before}
use Rattle.cow_map.proofs.start.page_from.Goals as goal

pub loop-high-preserved-then-begins_from : goal.loop-high-preserved-then-begins_from
loop-high-preserved-then-begins_from g c =
    (omega arith, omega arith, c.loop-high.invariant.2, page_from g.K.Ord.cmp (g.S.Start.from c.args.start.now) c.requires.upward c.args.pages.now _ c.index-pages-middle.result c.requires.rising (omega arith) c.index-pages-middle.is c.begins_from.ensures.some (sym c.begins_from.ensures.value ∙ c.if-begins_from.true))

pub loop-high-preserved : goal.loop-high-preserved
loop-high-preserved g c =
    (omega arith, omega arith, page_before g.K.Ord.cmp (g.S.Start.from c.args.start.now) c.requires.upward c.args.pages.now _ c.index-pages-middle.result c.requires.rising (omega arith) c.index-pages-middle.is c.begins_from.ensures.some (sym c.begins_from.ensures.value ∙ c.if-begins_from.false), c.loop-high.invariant.3)
