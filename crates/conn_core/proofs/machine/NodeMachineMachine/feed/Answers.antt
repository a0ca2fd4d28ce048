use Rattle.conn_core.proofs.Machines.{ok_adds, err_adds}
use Rattle.conn_core.proofs.machine.NodeMachineMachine.feed.Goals as goal

pub returns-in-Ok-clause-added : goal.returns-in-Ok-clause-added
returns-in-Ok-clause-added g c =
    let told = c.feed.ensures in
    ok_adds _ g.N.NodeCalls.is_open g.N.NodeCalls.is_committed g.C.Clock.tells c.args.self.now.rest c.args.self.now.conn c.feed.new.self c.args.self.now.node c.feed.new.node c.args.self.now.clock c.now-now.result c.args.bytes.now c.in-Ok.fed c.now-now.ensures
    (record { open_tickets = told.open; committed = told.committed; life = told.life })
    c.in-Ok.ensures.closed told.unchanged c.in-Ok.ensures.fed

pub returns-in-Err-clause-added : goal.returns-in-Err-clause-added
returns-in-Err-clause-added g c =
    let told = c.feed.ensures in
    err_adds _ g.N.NodeCalls.is_open g.N.NodeCalls.is_committed g.C.Clock.tells c.args.self.now.rest c.args.self.now.conn c.feed.new.self c.args.self.now.node c.feed.new.node c.args.self.now.clock c.now-now.result c.args.bytes.now _ c.now-now.ensures
    (record { open_tickets = told.open; committed = told.committed; life = told.life })
    c.in-Err.ensures.part
