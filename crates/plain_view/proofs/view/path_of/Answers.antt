use Rattle.std.proofs.Common.{◌≡◌, ℕ, ◌+◌, ◌-◌, ◌++◌, take, ap, sym, ◌∙◌, append_assoc, arith, append-nil}
use Rattle.std.specs.Prelude.{reverse}
use Rattle.repl_data.specs.View.{path_among}
use Rattle.plain_view.proofs.Views.{path_more, step_names, step_up}
use Rattle.plain_view.proofs.view.path_of.Goals as goal

pub loop-left-preserved : goal.loop-left-preserved
loop-left-preserved c =
    let es = c.args.present.now in
    let up = c.loop-left.up in
    let e = c.index-present-left.result in
    let n : ℕ = c.loop-left.left - 1 in
    let from : n + 1 ≡ c.loop-left.left = omega arith in (
      omega arith,
      (λ i. c.in_ok-up.ensures.path i ++ path_among (reverse (take n es)) (c.in_ok-up.ensures.up i))
          ∙ append_assoc c.loop-left.path (step_names e up) (path_among (reverse (take n es)) (step_up e up))
          ∙ (λ i. c.loop-left.path ++ (step_names (c.index-present-left.is i) up ++ path_among (reverse (take n es)) (step_up (c.index-present-left.is i) up)))
          ∙ ap (λ r. c.loop-left.path ++ r) (sym (path_more es n up e (omega arith)))
          ∙ ap (λ (k : ℕ). c.loop-left.path ++ path_among (reverse (take k es)) up) from
          ∙ c.loop-left.invariant.1,
    )

pub returns : goal.returns
returns c =
    let es = c.args.present.now in
    let from : 0 ≡ c.loop-left.left = omega arith in
    sym (append-nil c.loop-left.path)
    ∙ ap (λ (k : ℕ). c.loop-left.path ++ path_among (reverse (take k es)) c.loop-left.up) from
    ∙ c.loop-left.invariant.1
