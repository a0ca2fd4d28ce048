use Rattle.std.proofs.Common.{sym, ◌∙◌, ap}
use Rattle.repl_data.specs.Check.{has_value}
use Rattle.rule_values.proofs.InTurn.{part_put}
use Rattle.rule_values.proofs.attributes.with_part.Goals as goal

pub returns-clause-value : goal.returns-clause-value
returns-clause-value c =
    part_put c.args.before c.take_values-own.new.attrs c.put_attribute.new.attrs c.args.ava.now c.take_values-own.result c.in_ok-vals.vals c.in_ok-attr.field-0.attr c.in_ok-attr.field-0.val
    (sym (ap (λ xs. has_value xs c.args.ava.now) c.as_slice.ensures) ∙ sym c.in_ok-has.ensures ∙ c.if-has.false)
    c.in_ok-attr.ensures
    c.take_values-own.ensures.value c.in_ok-vals.ensures.0 c.take_values-own.ensures.put c.in_ok-put_attribute.ensures.value
