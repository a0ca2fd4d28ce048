use Rattle.std.proofs.Common.{◌∙◌, sym}
use Rattle.conn_core.proofs.Searched.{searched_life, by_refusal, by_search}
use Rattle.conn_core.proofs.looking.serve_search.Goals as goal

pub returns-then-has_critical-clause-served : goal.returns-then-has_critical-clause-served
returns-then-has_critical-clause-served g c =
    by_refusal _ c.args.controls.now c.args.request.now c.args.node.now c.result_of.result c.only.result (sym c.has_critical.ensures ∙ c.if-has_critical.true) c.result_of.ensures c.only.ensures

pub returns-clause-served : goal.returns-clause-served
returns-clause-served g c =
    by_search _ c.args.controls.now c.args.request.now c.args.node.now c.search.new.self c.search.result c.or_other.result (sym c.has_critical.ensures ∙ c.if-has_critical.false)
    (record { call = c.search.ensures.call; left = c.search.ensures.left; step = c.search.ensures.step })
    c.or_other.ensures

pub returns-clause-life : goal.returns-clause-life
returns-clause-life g c =
    searched_life g.N.NodeCalls.reach c.args.request.now c.args.node.now c.search.new.self c.search.result (record { call = c.search.ensures.call; left = c.search.ensures.left; step = c.search.ensures.step })
