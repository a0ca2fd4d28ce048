use Rattle.std.proofs.Common.{arith, sym, ◌∙◌}
use Rattle.cow_map.proofs.PageRows.{page_above, page_below}
use Rattle.cow_map.proofs.pages.page_of.Goals as goal

pub loop-high-preserved-then-begins_above : goal.loop-high-preserved-then-begins_above
loop-high-preserved-then-begins_above g c =
    (omega arith, omega arith, c.loop-high.invariant.2, page_above g.K.Ord.cmp g.met.K.Ord.total c.args.pages.now c.args.key.now _ c.index-pages-middle.result c.requires (omega arith) c.index-pages-middle.is c.begins_above.ensures.some (sym c.begins_above.ensures.value ∙ c.if-begins_above.true))

pub loop-high-preserved : goal.loop-high-preserved
loop-high-preserved g c =
    (omega arith, omega arith, page_below g.K.Ord.cmp g.met.K.Ord.total c.args.pages.now c.args.key.now _ c.index-pages-middle.result c.requires (omega arith) c.index-pages-middle.is c.begins_above.ensures.some (sym c.begins_above.ensures.value ∙ c.if-begins_above.false), c.loop-high.invariant.3)
