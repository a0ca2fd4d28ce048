use Rattle.std.proofs.Common.{◌≡◌, sym, ap, ◌∙◌, arith}
use Rattle.std.specs.declared.cmp.Ordering.TheVariants.{Less, Equal, Greater}
use Rattle.cow_map.proofs.Rising.{step_less, step_greater, step_equal}
use Rattle.cow_map.proofs.rows.place_of.Goals as goal

pub loop-low-preserved-in-Less : goal.loop-low-preserved-in-Less
loop-low-preserved-in-Less g c =
    let at : g.K.Ord.cmp c.args.key.now c.index-rows-middle.result.0 ≡ Less = ap (g.K.Ord.cmp c.args.key.now) (sym c.key.ensures) ∙ (sym c.cmp.ensures ∙ c.in-Less.is) in
    (omega arith, omega arith, c.loop-low.invariant.2, step_less g.K.Ord.cmp g.met.K.Ord.total _ _ _ c.index-rows-middle.result c.requires (omega arith) c.index-rows-middle.is at)

pub returns-in-Equal : goal.returns-in-Equal
returns-in-Equal g c =
    let at : g.K.Ord.cmp c.args.key.now c.index-rows-middle.result.0 ≡ Equal = ap (g.K.Ord.cmp c.args.key.now) (sym c.key.ensures) ∙ (sym c.cmp.ensures ∙ c.in-Equal.is) in
    step_equal g.K.Ord.cmp g.met.K.Ord.total _ _ _ c.index-rows-middle.result c.requires (omega arith) c.index-rows-middle.is at

pub loop-low-preserved : goal.loop-low-preserved
loop-low-preserved g c =
    let at : g.K.Ord.cmp c.args.key.now c.index-rows-middle.result.0 ≡ Greater = ap (g.K.Ord.cmp c.args.key.now) (sym c.key.ensures) ∙ (sym c.cmp.ensures ∙ c.in-Greater.is) in
    (omega arith, omega arith, step_greater g.K.Ord.cmp g.met.K.Ord.total _ _ _ c.index-rows-middle.result c.requires (omega arith) c.index-rows-middle.is at, c.loop-low.invariant.3)
