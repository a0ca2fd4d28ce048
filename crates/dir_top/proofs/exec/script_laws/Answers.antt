use Rattle.dir_top.proofs.Converging.{script_converges}
use Rattle.dir_top.proofs.exec.script_laws.Goals as goal

pub returns : goal.returns
returns c = record { converges = script_converges c.judge_laws.ensures.sound }
