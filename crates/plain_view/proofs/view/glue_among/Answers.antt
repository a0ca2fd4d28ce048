use Rattle.std.proofs.Common.{ap, sym, ◌∙◌, ◌+◌, arith}
use Rattle.std.proofs.lemmas.List.Sums.{count_by_more_yes, count_by_more_no}
use Rattle.repl_data.specs.View.{PresentEntry}
use Rattle.plain_view.proofs.view.glue_among.Goals as goal
use Rattle.plain_view.proofs.view.glue_among.Goals.{then-is_glue, else-is_glue}

pub loop-e-preserved : goal.loop-e-preserved
loop-e-preserved c =
    let test = sym (c.is_glue.ensures ∙ ap (λ (e : PresentEntry). e.is_glue) c.e-item.is) in
    elim c.if-is_glue.branch [
      | then-is_glue w ↦ (omega arith, w.count-is ∙ ap (λ n. n + 1) c.loop-e.invariant.1 ∙ sym (count_by_more_yes (λ (e : PresentEntry). e.is_glue) c.args.present.now c.loop-e.e-index c.e-item.result c.loop-e-test.true (test ∙ w.if-is_glue.true)))
      | else-is_glue w ↦ (omega arith, w.count-is ∙ c.loop-e.invariant.1 ∙ sym (count_by_more_no (λ (e : PresentEntry). e.is_glue) c.args.present.now c.loop-e.e-index c.e-item.result c.loop-e-test.true (test ∙ w.if-is_glue.false)))
    ]
