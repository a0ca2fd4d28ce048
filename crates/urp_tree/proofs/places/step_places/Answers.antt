use Rattle.std.proofs.Common.{◌≡◌, ℕ, ◌+◌, List, ◌∷◌, ◌++◌, [], take, sym, ap, subst, ◌∙◌}
use Rattle.std.specs.List.{AllByRecursion}
use Rattle.std.proofs.lemmas.List.{take_more}
use Rattle.urp_tree.specs.declared.child.Child.{Child}
use Rattle.urp_tree.specs.declared.step.Step.{Step}
use Rattle.urp_tree.specs.Rows.{facts_in}
use Rattle.urp_tree.specs.Index.{HasRisingIds}
use Rattle.urp_tree.specs.Walk.{children_in, stepped}
use Rattle.urp_tree.specs.Placed.{CoversStep, IsTurned}
use Rattle.urp_tree.proofs.Settled.{rising_children}
use Rattle.urp_tree.proofs.Placed.{steps_rise, covers_kept, covers_last, no_places}
use Rattle.urp_tree.proofs.Turned.{lone_turned, turned_at}
use Rattle.urp_tree.proofs.places.step_places.Goals as goal

pub loop-s-preserved : goal.loop-s-preserved
loop-s-preserved c =
    let ss : List Step = c.args.steps.now in
    let i : ℕ = c.loop-s.s-index in
    let s : Step = c.s-item.result in
    let cs : List Child = children_in c.args.rows.now in
    let ds : List Child = stepped ss cs in
    let rises : HasRisingIds cs = rising_children (facts_in c.args.rows.now.entries) c.requires.tree.rises in
    let turned : IsTurned cs ds s = turned_at cs ds ss i s (lone_turned c.requires.trues.0 ss cs rises c.requires.trues.1 c.requires.lone) c.loop-s-test.true c.s-item.is in
    let more : take (i + 1) ss ≡ take i ss ++ s ∷ [] = take_more ss i s c.loop-s-test.true ∙ ap (λ (t : Step). take i ss ++ t ∷ []) (sym c.s-item.is) in
    record {
      places = c.in_ok-put_step.ensures.places ds (steps_rise ss cs rises) turned c.loop-s.invariant.places;
      covers =
          subst (AllByRecursion (CoversStep cs ds c.put_step.new.places)) (sym more)
          (covers_last cs ds c.put_step.new.places (take i ss) s (covers_kept cs ds c.loop-s.places c.put_step.new.places c.in_ok-put_step.ensures.keeps (take i ss) c.loop-s.invariant.covers) (c.in_ok-put_step.ensures.covers ds turned));
    }
