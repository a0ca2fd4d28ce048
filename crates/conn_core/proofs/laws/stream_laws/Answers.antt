use Rattle.conn_core.proofs.Cuts.{has_one_stream, may_be_cut}
use Rattle.conn_core.proofs.laws.stream_laws.Goals as goal

pub returns-clause-one : goal.returns-clause-one
returns-clause-one c = has_one_stream

pub returns-clause-cut : goal.returns-clause-cut
returns-clause-cut c = may_be_cut
