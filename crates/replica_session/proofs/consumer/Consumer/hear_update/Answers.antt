use Rattle.replica_session.specs.Consumer.{Starves}
use Rattle.replica_session.proofs.Starving.{by_none, by_update}
use Rattle.replica_session.proofs.consumer.Consumer.hear_update.Goals as goal

pub returns-in-Ok-clause-short : goal.returns-in-Ok-clause-short
returns-in-Ok-clause-short g c =
    by_update g.T.Take.taking c.args.request.now c.args.now c.args.self.now c.update.new.self c.args.take.now c.update.new.take c.in-Ok.update c.update.result c.in-Ok.ensures.exact c.update.ensures.state c.update.ensures.short

pub returns-in-Err-NoMemory-clause-short : goal.returns-in-Err-NoMemory-clause-short
returns-in-Err-NoMemory-clause-short g c = Starves.unasked

pub returns-in-Err-Bad-clause-short : goal.returns-in-Err-Bad-clause-short
returns-in-Err-Bad-clause-short g c = by_none g.T.Take.taking c.args.request.now c.args.now c.args.self.now c.args.take.now c.unreadable_reply.result
