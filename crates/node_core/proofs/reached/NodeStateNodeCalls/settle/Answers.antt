use Rattle.std.proofs.Common.{subst, sym}
use Rattle.node_core.specs.Node.{Node}
use Rattle.node_core.specs.Calls.{IsTaken, IsPending, IsPendingTaken}
use Rattle.node_core.proofs.OpenTickets.{ended-now}
use Rattle.node_core.proofs.reached.NodeStateNodeCalls.settle.Goals as goal

pub returns-clause-open : goal.returns-clause-open
returns-clause-open c = λ e.
    subst (λ (m : Node). IsTaken (IsPending c.args.self.now) (IsPending m) c.args.receipt.csn) (sym c.settle.ensures.step)
    (ended-now c.args.self.now c.args.receipt.life c.args.receipt.csn e).opened

pub returns-clause-committed : goal.returns-clause-committed
returns-clause-committed c = λ e.
    subst (λ (m : Node). IsTaken (IsPendingTaken c.args.self.now) (IsPendingTaken m) c.args.receipt.csn) (sym c.settle.ensures.step)
    (ended-now c.args.self.now c.args.receipt.life c.args.receipt.csn e).committed
