use Rattle.std.proofs.Common.{◌≡◌, List, subst, ◌∙◌}
use Rattle.std.specs.Prelude.{IfOk}
use Rattle.repl_data.specs.declared.change.Val.{Val}
use Rattle.rule_values.proofs.ModSteps.{found_values, not_found_values}
use Rattle.rule_values.proofs.held.copy_held.Goals as goal

pub returns-in-Some : goal.returns-in-Some
returns-in-Some c =
    subst (λ (vs : List Val). IfOk c.to_list.result (λ vals. vals ≡ vs)) (c.values.ensures ∙ found_values c.args.own.now c.args.touched.now c.args.name.now c.in-Some.attr.now c.in-Some.ensures) c.to_list.ensures

pub returns-in_ok-vals-in-None : goal.returns-in_ok-vals-in-None
returns-in_ok-vals-in-None c =
    subst (λ (vs : List Val). IfOk c.into_list.result (λ vals. vals ≡ vs)) (c.in_ok-vals-in-None.ensures ∙ not_found_values c.args.own.now c.args.touched.now c.args.name.now c.in-None.ensures) c.into_list.ensures.value
