use Rattle.conn_core.proofs.Streams.{as_first}
use Rattle.conn_core.proofs.first.waits.Goals as goal

pub returns-clause-more : goal.returns-clause-more
returns-clause-more c t = as_first c.args.stream.now _ (c.waits.ensures.more t)
