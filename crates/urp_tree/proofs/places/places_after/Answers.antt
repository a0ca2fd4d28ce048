use Rattle.std.proofs.Common.{◌≡◌, List, length, arith, sym, ap, subst, ◌∙◌}
use Rattle.std.specs.Prelude.{IfOk}
use Rattle.std.specs.Option.{option_copied}
use Rattle.urp_tree.specs.declared.step.Step.{Step}
use Rattle.urp_tree.specs.Walk.{children_in, stepped}
use Rattle.urp_tree.specs.Climb.{AreTrue}
use Rattle.urp_tree.specs.Placed.{ArePlaces, LeavesRest}
use Rattle.urp_tree.proofs.Turned.{pair_is, move_form}
use Rattle.urp_tree.proofs.places.places_after.Goals as goal

pub moved_places-requires-clause-trues : goal.moved_places-requires-clause-trues
moved_places-requires-clause-trues c =
    let l : length c.args.steps.now ≡ 2 = omega (arith, c.if-steps-ne2.false) in
    let pair = pair_is c.args.steps.now c.in-Some.old.now c.in-Some-then_came.new.now l (sym c.first_left.ensures ∙ ap option_copied c.in-Some.is) (sym c.then_came.ensures ∙ ap option_copied c.in-Some-then_came.is) in
    (c.requires.trues.0, subst (AreTrue c.requires.trues.0 (children_in c.args.rows.now)) pair c.requires.trues.1)

pub moved_places-requires-clause-same : goal.moved_places-requires-clause-same
moved_places-requires-clause-same c =
    let l : length c.args.steps.now ≡ 2 = omega (arith, c.if-steps-ne2.false) in
    let pair = pair_is c.args.steps.now c.in-Some.old.now c.in-Some-then_came.new.now l (sym c.first_left.ensures ∙ ap option_copied c.in-Some.is) (sym c.then_came.ensures ∙ ap option_copied c.in-Some-then_came.is) in
    move_form c.args.steps.now c.in-Some.old.now c.in-Some-then_came.new.now c.requires.form pair

pub returns-in-Some-then_came-clause-places : goal.returns-in-Some-then_came-clause-places
returns-in-Some-then_came-clause-places c =
    let l : length c.args.steps.now ≡ 2 = omega (arith, c.if-steps-ne2.false) in
    let pair = pair_is c.args.steps.now c.in-Some.old.now c.in-Some-then_came.new.now l (sym c.first_left.ensures ∙ ap option_copied c.in-Some.is) (sym c.then_came.ensures ∙ ap option_copied c.in-Some-then_came.is) in
    subst (λ (ss : List Step). IfOk c.moved_places.result (ArePlaces (stepped ss (children_in c.args.rows.now)))) (sym pair) c.moved_places.ensures.places

pub returns-in-Some-then_came-clause-rest : goal.returns-in-Some-then_came-clause-rest
returns-in-Some-then_came-clause-rest c =
    let l : length c.args.steps.now ≡ 2 = omega (arith, c.if-steps-ne2.false) in
    let pair = pair_is c.args.steps.now c.in-Some.old.now c.in-Some-then_came.new.now l (sym c.first_left.ensures ∙ ap option_copied c.in-Some.is) (sym c.then_came.ensures ∙ ap option_copied c.in-Some-then_came.is) in
    subst (λ (ss : List Step). IfOk c.moved_places.result (LeavesRest (children_in c.args.rows.now) (stepped ss (children_in c.args.rows.now)))) (sym pair) c.moved_places.ensures.rest
