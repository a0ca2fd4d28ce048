use Rattle.world_core.proofs.AtCalls.{idle-call}
use Rattle.world_core.proofs.at.AtNodeNodeCalls.search.Goals as goal

pub returns-clause-call : goal.returns-clause-call
returns-clause-call c = idle-call c.args.self.now
