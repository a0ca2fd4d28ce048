use Rattle.std.proofs.Common.{◌∙◌}
use Rattle.std.specs.Prelude.{◌||◌, ◌&&◌}
use Rattle.repl_data.specs.Order.{bytes_eq}
use Rattle.repl_data.specs.Types.{is_derived_value}
use Rattle.repl_data.proofs.CheckLaws.{or_false}
use Rattle.repl_data.proofs.types.is_derived_value.Goals as goal

pub returns : goal.returns
unfolding is_derived_value
returns c =
    let class = c.same_bytes-class.ensures ∙ (λ i. bytes_eq (c.as_slice.ensures i) (c.as_slice-2.ensures i)) in
    let glue = c.same_bytes-glue.ensures ∙ (λ i. bytes_eq (c.as_slice-3.ensures i) (c.as_slice-4.ensures i)) in
    let tombstone = c.same_bytes-tombstone.ensures ∙ (λ i. bytes_eq (c.as_slice-5.ensures i) (c.as_slice-6.ensures i)) ∙ or_false _ in
    let either = c.or.ensures ∙ (λ i. glue i || tombstone i) in
    c.and.ensures ∙ (λ i. class i && either i)
