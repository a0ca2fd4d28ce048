use Rattle.front_tcp.proofs.Going.{serves_nothing}
use Rattle.front_tcp.proofs.serve.serve_stream.Goals as goal

pub returns-in_default-clause-serves : goal.returns-in_default-clause-serves
returns-in_default-clause-serves g c = serves_nothing g.M.Machine.adds _ _ _ _ (record {})

pub returns-in_default-buffer-clause-serves : goal.returns-in_default-buffer-clause-serves
returns-in_default-buffer-clause-serves g c = serves_nothing g.M.Machine.adds _ _ _ _ (record {})
