use Rattle.std.proofs.Common.{is_some, ap, ◌∙◌}
use Rattle.rule_values.specs.Entries.{vals_of}
use Rattle.rule_values.proofs.SetLemmas.{vals_has, vals_take}
use Rattle.rule_values.proofs.spelled.take.Goals as goal

pub returns-clause-take : goal.returns-clause-take
returns-clause-take c = ap vals_of c.remove-old.ensures.entries ∙ vals_take c.args.key.now c.args.spelled.now.entries c.len-count.ensures.ordered

pub returns-clause-was : goal.returns-clause-was
returns-clause-was c = c.is_some.ensures ∙ ap is_some c.remove-old.ensures.value ∙ vals_has c.args.key.now c.args.spelled.now.entries
