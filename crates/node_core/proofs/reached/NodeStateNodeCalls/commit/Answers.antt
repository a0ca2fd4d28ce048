use Rattle.node_core.proofs.Verdicts.{open-from}
use Rattle.node_core.proofs.OpenTickets.{commit-leaves, commit-open, commit-committed, not_keeper}
use Rattle.node_core.proofs.reached.NodeStateNodeCalls.commit.Goals as goal

pub returns-clause-open : goal.returns-clause-open
returns-clause-open c =
    let sound = c.laws.ensures.sound in
    commit-open c.args.self.now c.commit.new.self c.args.ticket.csn c.commit.result
    (commit-leaves c.args.self.now c.commit.new.self c.args.ticket _ c.args.now c.commit.result sound
    (λ e. open-from c.args.self.now c.args.ticket.csn sound (c.requires.open e) (c.requires.uncommitted e)) (not_keeper c.commit.result c.commit.ensures.keeper) c.commit.ensures.step)

pub returns-clause-committed : goal.returns-clause-committed
returns-clause-committed c =
    let sound = c.laws.ensures.sound in
    commit-committed c.args.self.now c.commit.new.self c.args.ticket.csn c.commit.result
    (commit-leaves c.args.self.now c.commit.new.self c.args.ticket _ c.args.now c.commit.result sound
    (λ e. open-from c.args.self.now c.args.ticket.csn sound (c.requires.open e) (c.requires.uncommitted e)) (not_keeper c.commit.result c.commit.ensures.keeper) c.commit.ensures.step)
