use Rattle.std.proofs.Common.{◌≡◌, subst}
use Rattle.ldap_types.specs.declared.request.Op.{Op}
use Rattle.repl_data.specs.View.{view_of}
use Rattle.ldap_rules.specs.Laws.{needed_at}
use Rattle.ldap_rules.proofs.There.{entry_known}
use Rattle.ldap_rules.specs.Verdict.{Writes, op_verdict}
use Rattle.ldap_rules.proofs.Ops.{op_sound, op_there, op_needs, op_carries, op_each}
use Rattle.ldap_rules.proofs.Answered.{op_tells}
use Rattle.ldap_rules.proofs.laws.rule_laws.Goals as goal

pub returns-clause-sound : goal.returns-clause-sound
returns-clause-sound c = λ suffix changes r bound target body csn sound h drawn.
    op_sound suffix changes r.controls bound r.op target body csn c.dn_laws.ensures.read sound h drawn

pub returns-clause-there : goal.returns-clause-there
returns-clause-there c = λ v r bound target body csn h. op_there v r.controls bound r.op target body csn h

pub returns-clause-known : goal.returns-clause-known
returns-clause-known c = λ suffix changes r bound target body csn h.
    entry_known suffix changes (needed_at csn target body) (op_there (view_of suffix changes) r.controls bound r.op target body csn h)

pub returns-clause-one_need : goal.returns-clause-one_need
returns-clause-one_need c = λ v r bound target body csn other h. op_needs v r.controls bound r.op target body csn other h

pub returns-clause-carries : goal.returns-clause-carries
returns-clause-carries c = λ suffix changes r bound target body sound carried root h.
    op_carries suffix changes r.controls bound r.op target body c.dn_laws.ensures.read sound carried root h

pub returns-clause-modifies : goal.returns-clause-modifies
returns-clause-modifies c = λ v r bound object given target body is h.
    op_each v r.controls bound object given target body (subst (λ (o : Op). op_verdict v r.controls bound o ≡ Writes target body) is h)

pub returns-clause-refuses : goal.returns-clause-refuses
returns-clause-refuses c = λ v r bound answer h. op_tells v r.controls bound r.op answer h
