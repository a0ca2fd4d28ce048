use Rattle.std.proofs.Common.{sym, ◌∙◌}
use Rattle.repl_data.proofs.Loops.{put_equal, put_less, put_greater}
use Rattle.shown_entry.proofs.order.place.Goals as goal

pub returns-in-Equal-clause-put : goal.returns-in-Equal-clause-put
returns-in-Equal-clause-put g c =
    put_equal g.T.Ranked.order c.args.item.now c.args.items.now c.loop-at.at c.index-items-at.result c.loop-at.invariant c.loop-at-test.true c.index-items-at.is (sym c.compare.ensures ∙ c.in-Equal.is)

pub returns-in-Less-clause-put : goal.returns-in-Less-clause-put
returns-in-Less-clause-put g c =
    put_less g.T.Ranked.order c.args.item.now c.args.items.now c.loop-at.at c.index-items-at.result c.loop-at.invariant c.loop-at-test.true c.index-items-at.is (sym c.compare.ensures ∙ c.in-Less.is)

pub loop-at-preserved : goal.loop-at-preserved
loop-at-preserved g c =
    put_greater g.T.Ranked.order c.args.item.now c.args.items.now c.loop-at.at c.index-items-at.result c.loop-at.invariant c.loop-at-test.true c.index-items-at.is (sym c.compare.ensures ∙ c.in-Greater.is)
