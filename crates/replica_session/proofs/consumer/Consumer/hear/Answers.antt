use Rattle.replica_session.proofs.Starving.{by_none}
use Rattle.replica_session.proofs.consumer.Consumer.hear.Goals as goal

pub returns-then-is_extended-clause-short : goal.returns-then-is_extended-clause-short
returns-then-is_extended-clause-short g c = by_none g.T.Take.taking c.args.request.now c.args.now c.args.self.now c.args.take.now c.end_reply.result
