use Rattle.std.proofs.Common.{ap, ◌∙◌}
use Rattle.repl_data.specs.declared.change.Malformed.TheVariants.{NameValue}
use Rattle.repl_data.specs.Check.{fault_if, either_fault}
use Rattle.repl_data.proofs.CheckLaws.{either_none}
use Rattle.repl_data.proofs.faults.body_fault.Goals as goal

pub returns : goal.returns
returns c =
    let last = c.fault_where-name_value.ensures ∙ ap (λ b. fault_if b NameValue) c.no_name_value.ensures ∙ either_none _ in
    let third = c.either.ensures ∙ (λ i. either_fault (c.derived_fault-derived.ensures i) (last i)) in
    let second = c.either-2.ensures ∙ (λ i. either_fault (c.double_fault-double.ensures i) (third i)) in
    c.either-3.ensures ∙ (λ i. either_fault (c.empty_fault-empty.ensures i) (second i))
