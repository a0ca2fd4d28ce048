use Rattle.std.proofs.Common.{◌∙◌}
use Rattle.rule_values.proofs.SetLemmas.{vals_has}
use Rattle.rule_values.proofs.spelled.has.Goals as goal

pub returns : goal.returns
returns c = c.contains_key.ensures ∙ vals_has c.args.key.now c.args.spelled.now.entries
