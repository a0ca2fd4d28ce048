use Rattle.node_core.proofs.Judging.{judge_sound}
use Rattle.node_core.proofs.laws.judge_laws.Goals as goal

pub returns : goal.returns
returns c = record { sound = judge_sound c.rule_laws.ensures.sound c.rule_laws.ensures.known c.rule_laws.ensures.one_need }
