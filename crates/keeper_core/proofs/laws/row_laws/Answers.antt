use Rattle.keeper_core.proofs.Left.{bytes_at-last_put, bytes_at-last_remove, bytes_at-others, IsRising-batch, rows-same}
use Rattle.keeper_core.proofs.laws.row_laws.Goals as goal

pub returns-clause-put : goal.returns-clause-put
returns-clause-put c = bytes_at-last_put

pub returns-clause-removed : goal.returns-clause-removed
returns-clause-removed c = bytes_at-last_remove

pub returns-clause-others : goal.returns-clause-others
returns-clause-others c = bytes_at-others

pub returns-clause-rising : goal.returns-clause-rising
returns-clause-rising c = IsRising-batch

pub returns-clause-same : goal.returns-clause-same
returns-clause-same c = rows-same
