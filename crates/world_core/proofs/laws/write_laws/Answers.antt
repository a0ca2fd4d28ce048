use Rattle.world_core.proofs.Writing.{writes_lead}
use Rattle.world_core.proofs.laws.write_laws.Goals as goal

pub returns : goal.returns
returns c = record { calls = writes_lead }
