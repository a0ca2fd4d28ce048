use Rattle.search_core.specs.Query.{gives}
use Rattle.search_core.proofs.Sofar.{over_rest}
use Rattle.search_core.proofs.walk.visit_each.Goals as goal

pub returns-then-hits : goal.returns-then-hits
returns-then-hits g c = λ r asks.
    over_rest r (gives (g.V.View.view c.args.view.now) r.filter) c.args.ids.now c.loop-id.id-index _ c.visit.new.hits c.loop-id-test.true (c.in_ok-visit.ensures.takes r _ asks (c.loop-id.invariant r asks)) c.if-hits.true
