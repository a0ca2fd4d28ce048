use Rattle.conn_core.proofs.Searched.{searched_life}
use Rattle.conn_core.proofs.looking.compare_by.Goals as goal

pub returns-clause-searched : goal.returns-clause-searched
returns-clause-searched g c = (c.search.result, record { call = c.search.ensures.call; left = c.search.ensures.left; step = c.search.ensures.step }, c.compare_told.ensures)

pub returns-clause-life : goal.returns-clause-life
returns-clause-life g c =
    searched_life g.N.NodeCalls.reach c.args.request.now c.args.node.now c.search.new.self c.search.result (record { call = c.search.ensures.call; left = c.search.ensures.left; step = c.search.ensures.step })
