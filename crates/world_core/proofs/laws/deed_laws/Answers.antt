use Rattle.world_core.proofs.Kept.{after-lawful, after-honest}
use Rattle.world_core.proofs.laws.deed_laws.Goals as goal

pub returns-clause-lawful : goal.returns-clause-lawful
returns-clause-lawful c = after-lawful

pub returns-clause-honest : goal.returns-clause-honest
returns-clause-honest c = after-honest
