use Rattle.ldap_rules.proofs.SameNames.{same_leads, same_child, same_contenders}
use Rattle.ldap_rules.proofs.name_keys.place_laws.Goals as goal

pub returns-clause-place : goal.returns-clause-place
returns-clause-place c = λ v a b h. same_leads v a b h

pub returns-clause-child : goal.returns-clause-child
returns-clause-child c = λ v parent a b h. same_child v parent a b h

pub returns-clause-contenders : goal.returns-clause-contenders
returns-clause-contenders c = λ present parent a b h. same_contenders present parent a b h
