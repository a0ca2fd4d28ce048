use Rattle.node_core.proofs.Vectors.{entry_of-vector_of, vector_of-is}
use Rattle.node_core.proofs.laws.vector_laws.Goals as goal

pub returns-clause-entries : goal.returns-clause-entries
returns-clause-entries c = entry_of-vector_of

pub returns-clause-is : goal.returns-clause-is
returns-clause-is c = vector_of-is
