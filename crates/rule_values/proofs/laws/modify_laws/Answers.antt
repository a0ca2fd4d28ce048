use Rattle.rule_values.proofs.Effect.{same_effect}
use Rattle.rule_values.proofs.PlainEffect.{plain_at, shown_as}
use Rattle.rule_values.proofs.laws.modify_laws.Goals as goal

pub returns-clause-written : goal.returns-clause-written
returns-clause-written c = λ has mods name. same_effect has mods name

pub returns-clause-plain : goal.returns-clause-plain
returns-clause-plain c = λ attrs mods name r. plain_at attrs mods name r

pub returns-clause-shown : goal.returns-clause-shown
returns-clause-shown c = λ attrs name r h. shown_as attrs name r h
