use Rattle.std.proofs.Common.{◌≡◌, List, subst, sym, ap, ◌∙◌}
use Rattle.std.specs.Prelude.{IfOk, is_some, find}
use Rattle.repl_data.specs.declared.change.Val.{Val}
use Rattle.repl_data.specs.declared.change.Attr.{Attr}
use Rattle.repl_data.specs.Order.{bytes_eq}
use Rattle.rule_values.specs.Modify.{shown_values}
use Rattle.rule_values.proofs.ModSteps.{vals_found, not_found_values, none_found}
use Rattle.rule_values.proofs.held.take_held.Goals as goal

pub returns-then-is_touched-clause-value : goal.returns-then-is_touched-clause-value
returns-then-is_touched-clause-value c =
    c.take_values.ensures.value
    ∙ vals_found c.args.own.now c.args.attr.now.name c.args.touched.now c.requires
    (sym (ap (λ k. is_some (find (λ (a : Attr). bytes_eq k a.attr.name) c.args.touched.now)) c.as_slice.ensures) ∙ sym c.is_touched.ensures ∙ c.if-is_touched.true)

pub returns-else-is_touched-clause-value : goal.returns-else-is_touched-clause-value
returns-else-is_touched-clause-value c =
    subst (λ (vs : List Val). IfOk c.shown_values.result (λ vals. vals ≡ vs))
    (ap (shown_values c.args.own.now) c.as_slice-else-is_touched.ensures
    ∙ not_found_values c.args.own.now c.args.touched.now c.args.attr.now.name
    (none_found (find (λ (a : Attr). bytes_eq c.args.attr.now.name a.attr.name) c.args.touched.now)
    (sym (ap (λ k. is_some (find (λ (a : Attr). bytes_eq k a.attr.name) c.args.touched.now)) c.as_slice.ensures) ∙ sym c.is_touched.ensures ∙ c.if-is_touched.false)))
    c.shown_values.ensures
