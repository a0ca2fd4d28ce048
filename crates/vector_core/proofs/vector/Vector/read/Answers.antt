use Rattle.std.proofs.Common.{sym, ap, ◌∙◌, subst, Ok, ◌∷◌, [], ◌++◌}
use Rattle.std.specs.Ordering.{is_gt}
use Rattle.vector_core.specs.Text.{IsVectorText}
use Rattle.vector_core.proofs.Lists.{none_from_not}
use Rattle.repl_data.proofs.CsnTests.{zero_from_not_gt, not_zero_from_gt}
use Rattle.vector_core.proofs.Entries.{alike_more}
use Rattle.vector_core.proofs.Texts.{none_where_bad, none_where_double, IsVectorText-more}
use Rattle.vector_core.proofs.vector.Vector.read.Goals as goal

pub returns-in_default-clause-none : goal.returns-in_default-clause-none
returns-in_default-clause-none c = λ same csns is.
    none_where_bad c.as_slice-items.result.now c.loop-item.item-index c.item-item.result c.loop-item-test.true c.item-item.is
    (λ csn ok e. c.in_ok-csn.ensures.none (ap Ok (none_from_not c.in_ok-csn.field-0 c.in_default.not-Some)) csn ok (c.as_slice.ensures ∙ e))
    csns (subst (λ t. IsVectorText t csns) (sym c.as_slice-items.ensures) is)

pub returns-then-is_gt-clause-none : goal.returns-then-is_gt-clause-none
returns-then-is_gt-clause-none c = λ same csns is.
    let h = rw c.in-Some.is at c.in_ok-csn.ensures.found in
    let inv = c.loop-item.invariant in
    none_where_double c.as_slice-items.result.now c.loop-item.item-index c.item-item.result c.in-Some.csn c.loop-item.vector inv.1.0 c.loop-item-test.true c.item-item.is
    h.0 (sym c.as_slice.ensures ∙ h.1) inv.1.1 inv.1.2
    (λ z. not_zero_from_gt c.get.result (sym (c.is_gt.ensures ∙ ap is_gt c.compare.ensures) ∙ c.if-is_gt.true) (c.get.ensures.entry ∙ z))
    csns (subst (λ t. IsVectorText t csns) (sym c.as_slice-items.ensures) is)

pub loop-item-preserved : goal.loop-item-preserved
loop-item-preserved c =
    let h = rw c.in-Some.is at c.in_ok-csn.ensures.found in
    let inv = c.loop-item.invariant in
    let zero = sym c.get.ensures.entry ∙ zero_from_not_gt c.get.result (sym (c.is_gt.ensures ∙ ap is_gt c.compare.ensures) ∙ c.if-is_gt.false) in (
      c.in_ok-raise.ensures.vector,
      (
        inv.1.0 ++ c.in-Some.csn ∷ [],
        IsVectorText-more c.as_slice-items.result.now c.loop-item.item-index c.item-item.result c.in-Some.csn c.loop-item.vector inv.1.0 c.loop-item-test.true c.item-item.is
            h.0 (sym c.as_slice.ensures ∙ h.1) inv.1.1 inv.1.2 zero,
        alike_more c.loop-item.vector c.raise.new.self inv.1.0 c.in-Some.csn inv.1.2 c.in_ok-raise.ensures.ok,
      ),
    )
