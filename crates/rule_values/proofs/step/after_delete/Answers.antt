use Rattle.std.proofs.Common.{List, subst, sym, ap, ◌∙◌}
use Rattle.repl_data.specs.declared.change.Val.{Val}
use Rattle.rule_values.specs.Refusing.{Gives}
use Rattle.rule_values.specs.Having.{left_of}
use Rattle.rule_values.proofs.Stepping.{delete_some}
use Rattle.rule_values.proofs.step.after_delete.Goals as goal

pub returns-else-is_empty : goal.returns-else-is_empty
returns-else-is_empty c =
    subst (Gives c.deleted.result)
    (ap (λ (vals : List Val). left_of vals c.args.had) c.as_slice.ensures ∙ delete_some c.args.vals.now c.args.had (sym c.is_empty.ensures ∙ c.if-is_empty.false))
    c.deleted.ensures
