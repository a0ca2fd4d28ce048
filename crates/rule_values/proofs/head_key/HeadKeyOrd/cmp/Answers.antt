use Rattle.std.proofs.Common.{ap, ◌∙◌}
use Rattle.std.specs.Ordering.{ordering_then}
use Rattle.repl_data.specs.Order.{bytes_cmp}
use Rattle.rule_values.proofs.Heads.{told_by_fronts}
use Rattle.rule_values.proofs.head_key.HeadKeyOrd.cmp.Goals as goal

pub returns : goal.returns
returns c =
    let a = c.self.inside.key in
    let b = c.other.inside.key in
    let first = c.as_slice.ensures ∙ c.self.invariant in
    let second = c.as_slice-2.ensures ∙ c.other.invariant in
    c.then_keys.ensures
    ∙ ap (λ o. ordering_then o (bytes_cmp a b)) (c.cmp-heads.ensures ∙ (λ i. bytes_cmp (first i) (second i)))
    ∙ told_by_fronts a b ∙ (λ i. bytes_cmp (c.self.view_is i) (c.other.view_is i))
