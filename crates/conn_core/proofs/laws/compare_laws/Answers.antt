use Rattle.conn_core.proofs.Comparing.{compares_by_rules}
use Rattle.conn_core.proofs.laws.compare_laws.Goals as goal

pub returns : goal.returns
returns c = record { rules = compares_by_rules }
