use Rattle.node_core.proofs.Alone.{begin-alone, commit-alone, ended-alone, acquire-alone, released-alone}
use Rattle.node_core.proofs.Applies.{apply_keeps}
use Rattle.node_core.proofs.laws.node_laws.Goals as goal

pub returns-clause-begin : goal.returns-clause-begin
returns-clause-begin c = λ n now s. (let g = begin-alone n now s in (g.sound, g.on))

pub returns-clause-commit : goal.returns-clause-commit
returns-clause-commit c = λ n life csn verdict now fails s o. (let g = commit-alone n life csn verdict now fails s o in (g.sound, g.on))

pub returns-clause-ended : goal.returns-clause-ended
returns-clause-ended c = λ n life csn s. (let g = ended-alone n life csn s in (g.sound, g.on))

pub returns-clause-acquire : goal.returns-clause-acquire
returns-clause-acquire c = λ n from answer s. (let g = acquire-alone n from answer s in (g.sound, g.on))

pub returns-clause-release : goal.returns-clause-release
returns-clause-release c = λ n from s. (let g = released-alone n from s in (g.sound, g.on))

pub returns-clause-apply : goal.returns-clause-apply
returns-clause-apply c = λ n from u now fails s seq rid. apply_keeps n from u now fails s (record { seq = seq; rid = rid })
