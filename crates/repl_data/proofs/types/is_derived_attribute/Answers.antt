use Rattle.std.proofs.Common.{◌∙◌}
use Rattle.std.specs.Prelude.{◌||◌}
use Rattle.repl_data.specs.Order.{bytes_eq}
use Rattle.repl_data.specs.Types.{is_derived_attribute}
use Rattle.repl_data.proofs.CheckLaws.{or_false}
use Rattle.repl_data.proofs.types.is_derived_attribute.Goals as goal

pub returns : goal.returns
unfolding is_derived_attribute
returns c =
    let id = c.same_bytes-id.ensures ∙ (λ i. bytes_eq (c.as_slice.ensures i) (c.as_slice-2.ensures i)) in
    let parent = c.same_bytes-parent.ensures ∙ (λ i. bytes_eq (c.as_slice-3.ensures i) (c.as_slice-4.ensures i)) in
    let conflict = c.same_bytes-conflict.ensures ∙ (λ i. bytes_eq (c.as_slice-5.ensures i) (c.as_slice-6.ensures i)) in
    let vector = c.same_bytes-vector.ensures ∙ (λ i. bytes_eq (c.as_slice-7.ensures i) (c.as_slice-8.ensures i)) ∙ or_false _ in
    let last = c.or.ensures ∙ (λ i. conflict i || vector i) in
    let more = c.or-2.ensures ∙ (λ i. parent i || last i) in
    c.or-3.ensures ∙ (λ i. id i || more i)
