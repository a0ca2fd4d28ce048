use Rattle.plain_effect.proofs.Commits.{commits_plainly}
use Rattle.plain_effect.proofs.laws.commit_effect_law.Goals as goal

pub returns : goal.returns
returns c = record { plain = commits_plainly c.judge_laws.ensures.sound }
