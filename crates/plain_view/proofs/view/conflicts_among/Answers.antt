use Rattle.std.proofs.Common.{ap, sym, ◌∙◌, ◌+◌, arith}
use Rattle.std.proofs.lemmas.List.Sums.{count_by_more_yes, count_by_more_no}
use Rattle.repl_data.specs.View.{lost_name}
use Rattle.plain_view.proofs.view.conflicts_among.Goals as goal
use Rattle.plain_view.proofs.view.conflicts_among.Goals.{then-lost_name, else-lost_name}

pub loop-e-preserved : goal.loop-e-preserved
loop-e-preserved c =
    let test = sym (c.lost_name.ensures ∙ ap lost_name c.e-item.is) in
    elim c.if-lost_name.branch [
      | then-lost_name w ↦ (omega arith, w.count-is ∙ ap (λ n. n + 1) c.loop-e.invariant.1 ∙ sym (count_by_more_yes lost_name c.args.present.now c.loop-e.e-index c.e-item.result c.loop-e-test.true (test ∙ w.if-lost_name.true)))
      | else-lost_name w ↦ (omega arith, w.count-is ∙ c.loop-e.invariant.1 ∙ sym (count_by_more_no lost_name c.args.present.now c.loop-e.e-index c.e-item.result c.loop-e-test.true (test ∙ w.if-lost_name.false)))
    ]
