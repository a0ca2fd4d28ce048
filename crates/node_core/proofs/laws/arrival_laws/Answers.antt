use Rattle.node_core.proofs.ClosedSteps.{commit_closed, apply_closed}
use Rattle.node_core.proofs.laws.arrival_laws.Goals as goal

pub returns-clause-commit : goal.returns-clause-commit
returns-clause-commit c = commit_closed

pub returns-clause-apply : goal.returns-clause-apply
returns-clause-apply c = λ n from u now fails s seq rid. apply_closed n from u now fails s (record { seq = seq; rid = rid })
