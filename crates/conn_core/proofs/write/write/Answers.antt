use Rattle.std.proofs.Common.{◌∙◌, Ok}
use Rattle.ldap_rules.specs.Case.{result_of}
use Rattle.conn_core.proofs.Writes.{begun_keeps, committed_keeps, ended_keeps, receipt_life, by_begin, by_settle, by_abort}
use Rattle.conn_core.proofs.Tickets.{open_same, committed_same, same_twice}
use Rattle.conn_core.proofs.write.write.Goals as goal

pub returns-in-Err-clause-written : goal.returns-in-Err-clause-written
returns-in-Err-clause-written g c =
    by_begin _ c.args.now c.args.bound c.args.request.now c.args.node.now c.begin.new.self c.in-Err.fault c.begin_result.result
    (record { call = c.in-Err.ensures.call; step = c.in-Err.ensures.step })
    c.begin_result.ensures

pub returns-in-Ok-commit-clause-written : goal.returns-in-Ok-commit-clause-written
returns-in-Ok-commit-clause-written g c = (
  result_of 0,
  by_settle _ c.args.now c.args.bound c.args.request.now c.args.node.now c.begin.new.self c.commit.new.self c.settle.new.self c.in-Ok.ticket c.in-Ok-commit.receipt
      (record { call = c.in-Ok.ensures.call; step = c.in-Ok.ensures.step })
      (record { call = c.in-Ok-commit.ensures.call; step = c.in-Ok-commit.ensures.step; cause = c.in-Ok-commit.ensures.cause })
      (record { call = c.settle.ensures.call; step = c.settle.ensures.step }),
  c.result_of.ensures,
)

pub returns-in-Ok-commit-clause-open : goal.returns-in-Ok-commit-clause-open
returns-in-Ok-commit-clause-open g c =
    let own = receipt_life g.N.NodeCalls.reach c.args.now c.args.bound c.args.request.now c.in-Ok.ticket c.begin.new.self c.commit.new.self c.in-Ok-commit.receipt
    (record { call = c.in-Ok-commit.ensures.call; step = c.in-Ok-commit.ensures.step; cause = c.in-Ok-commit.ensures.cause }) in
    open_same (g.N.NodeCalls.is_open c.args.node.now) (g.N.NodeCalls.is_open c.begin.new.self) (g.N.NodeCalls.is_open c.commit.new.self) (g.N.NodeCalls.is_open c.settle.new.self) c.in-Ok.ticket.csn c.in-Ok-commit.receipt.csn
    c.in-Ok.ensures.open c.in-Ok-commit.ensures.open (c.settle.ensures.open own)

pub returns-in-Ok-commit-clause-committed : goal.returns-in-Ok-commit-clause-committed
returns-in-Ok-commit-clause-committed g c =
    let own = receipt_life g.N.NodeCalls.reach c.args.now c.args.bound c.args.request.now c.in-Ok.ticket c.begin.new.self c.commit.new.self c.in-Ok-commit.receipt
    (record { call = c.in-Ok-commit.ensures.call; step = c.in-Ok-commit.ensures.step; cause = c.in-Ok-commit.ensures.cause }) in
    same_twice (g.N.NodeCalls.is_committed c.args.node.now) (g.N.NodeCalls.is_committed c.begin.new.self) (g.N.NodeCalls.is_committed c.settle.new.self) c.in-Ok.ensures.committed
    (committed_same (g.N.NodeCalls.is_committed c.begin.new.self) (g.N.NodeCalls.is_committed c.commit.new.self) (g.N.NodeCalls.is_committed c.settle.new.self) c.in-Ok-commit.receipt.csn c.in-Ok-commit.ensures.committed (c.settle.ensures.committed own))

pub returns-in-Ok-commit-clause-life : goal.returns-in-Ok-commit-clause-life
returns-in-Ok-commit-clause-life g c =
    ended_keeps g.N.NodeCalls.reach c.in-Ok-commit.receipt.life c.in-Ok-commit.receipt.csn c.commit.new.self c.settle.new.self (record { call = c.settle.ensures.call; step = c.settle.ensures.step })
    ∙ committed_keeps g.N.NodeCalls.reach c.args.now c.args.bound c.args.request.now c.in-Ok.ticket c.begin.new.self c.commit.new.self (Ok c.in-Ok-commit.receipt) (record { call = c.in-Ok-commit.ensures.call; step = c.in-Ok-commit.ensures.step; cause = c.in-Ok-commit.ensures.cause })
    ∙ begun_keeps g.N.NodeCalls.reach c.args.now c.args.node.now c.begin.new.self (Ok c.in-Ok.ticket) (record { call = c.in-Ok.ensures.call; step = c.in-Ok.ensures.step })

pub returns-in-Err-commit-clause-written : goal.returns-in-Err-commit-clause-written
returns-in-Err-commit-clause-written g c =
    by_abort _ c.args.now c.args.bound c.args.request.now c.args.node.now c.begin.new.self c.commit.new.self c.abort.new.self c.in-Ok.ticket c.in-Err-commit.ticket c.in-Err-commit.fault c.commit_result.result
    (record { call = c.in-Ok.ensures.call; step = c.in-Ok.ensures.step })
    (record { call = c.in-Err-commit.ensures.call; step = c.in-Err-commit.ensures.step; cause = c.in-Err-commit.ensures.cause })
    (record { call = c.abort.ensures.call; step = c.abort.ensures.step })
    c.commit_result.ensures
