use Rattle.std.proofs.Common.{sym, ◌∙◌}
use Rattle.rule_values.proofs.Stepping.{add_first}
use Rattle.rule_values.proofs.step.after_add.Goals as goal

pub returns-then-is_empty : goal.returns-then-is_empty
returns-then-is_empty c = add_first c.args.vals.now c.args.had c.in_ok-all.all (sym c.is_empty.ensures ∙ c.if-is_empty.true) c.requires c.in_ok-all.ensures
