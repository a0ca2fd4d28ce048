use Rattle.node_core.proofs.Verdicts.{client_parts}
use Rattle.node_core.proofs.client.is_client_write.Goals as goal

pub returns-then-is_change-clause-write : goal.returns-then-is_change-clause-write
returns-then-is_change-clause-write c = λ t bound.
    client_parts c.args.request.now bound c.is_change.result c.is_update.result c.is_change.ensures c.if-is_change.true c.is_update.ensures t
