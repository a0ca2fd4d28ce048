use Rattle.agreement_run.proofs.sides.write_side.Goals as goal

pub returns-clause-faults : goal.returns-clause-faults
returns-clause-faults g c = (g.met.T.Stream.write_keeps c.write.new.self c.args.stream.now c.write.ensures.apart).1
