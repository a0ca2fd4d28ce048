use Rattle.std.proofs.Common.{subst, sym}
use Rattle.keeper_core.specs.Accepted.{HasAccepted}
use Rattle.keeper_core.proofs.History.{accepted_more}
use Rattle.keeper_core.proofs.map.MapKeeperKeeper.put_batch.Goals as goal

pub returns-in-Ok-clause-accepted : goal.returns-in-Ok-clause-accepted
returns-in-Ok-clause-accepted c = λ batches h.
    accepted_more _ _ batches c.args.batch.now c.in-Ok.ensures.ok c.saturating_add-self-inside-in-Ok.ensures (subst (λ s. HasAccepted s batches) (sym c.self.view_is) h)
