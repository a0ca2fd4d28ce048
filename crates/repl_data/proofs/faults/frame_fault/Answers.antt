use Rattle.std.proofs.Common.{ap, ◌∙◌}
use Rattle.repl_data.specs.declared.change.Malformed.TheVariants.{Rid, Sub, Order, Root, TooMany, TooHeavy}
use Rattle.repl_data.specs.Check.{fault_if, either_fault}
use Rattle.repl_data.proofs.CheckLaws.{either_none}
use Rattle.repl_data.proofs.faults.frame_fault.Goals as goal

pub returns : goal.returns
returns c =
    let rid = c.fault_where-rid.ensures ∙ ap (λ b. fault_if b Rid) c.has_bad_rid.ensures in
    let sub = c.fault_where-sub.ensures ∙ ap (λ b. fault_if b Sub) c.has_sub.ensures in
    let order = c.fault_where-order.ensures ∙ ap (λ b. fault_if b Order) c.out_of_order-late.ensures in
    let root = c.fault_where-root.ensures ∙ ap (λ b. fault_if b Root) c.of_root.ensures in
    let many = c.fault_where-many.ensures ∙ ap (λ b. fault_if b TooMany) c.too_many.ensures in
    let heavy = c.fault_where-heavy.ensures ∙ ap (λ b. fault_if b TooHeavy) c.too_heavy.ensures ∙ either_none _ in
    let fifth = c.either.ensures ∙ (λ i. either_fault (many i) (heavy i)) in
    let fourth = c.either-2.ensures ∙ (λ i. either_fault (root i) (fifth i)) in
    let third = c.either-3.ensures ∙ (λ i. either_fault (order i) (fourth i)) in
    let second = c.either-4.ensures ∙ (λ i. either_fault (sub i) (third i)) in
    c.either-5.ensures ∙ (λ i. either_fault (rid i) (second i))
