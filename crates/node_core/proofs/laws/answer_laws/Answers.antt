use Rattle.node_core.proofs.Refusals.{applies_in_memory, acquires_in_memory}
use Rattle.node_core.proofs.laws.answer_laws.Goals as goal

pub returns-clause-apply : goal.returns-clause-apply
returns-clause-apply c = applies_in_memory

pub returns-clause-acquire : goal.returns-clause-acquire
returns-clause-acquire c = acquires_in_memory
