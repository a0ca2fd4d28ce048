use Rattle.agreement_run.proofs.sides.read_side.Goals as goal

pub returns-clause-faults : goal.returns-clause-faults
returns-clause-faults g c = (g.met.T.Stream.read_keeps c.read.new.self c.args.stream.now c.read.ensures.apart).1
