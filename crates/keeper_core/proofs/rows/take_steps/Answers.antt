use Rattle.std.proofs.Common.{[], ◌∷◌, sym, ap, ◌∙◌, arith, rules, map-id}
use Rattle.std.proofs.lemmas.List.{length_push}
use Rattle.std.proofs.lemmas.Iterator.Consumers.{YieldsList-turn, YieldsList-end}
use Rattle.std.proofs.lemmas.Iterator.Adapters.{YieldsList-from_vec}
use Rattle.keeper_core.specs.Rows.{after_step, after_batch}
use Rattle.keeper_core.proofs.Left.{after_batch-append}
use Rattle.keeper_core.proofs.rows.take_steps.Goals as goal

pub take_step-requires-clause-room : goal.take_step-requires-clause-room
take_step-requires-clause-room c =
    let turn = YieldsList-turn (YieldsList-from_vec {s = c.into_iter-step-iterator.result} c.args.steps.items (search rules) (search rules))
    c.loop-step.yielded c.loop-step.step-iterator c.loop-step.yielded_by c.next.result c.next.new.self c.in-Some.step c.in-Some.is c.next.ensures.steps in
    omega (arith, turn.0, c.args.steps.ok.0, c.loop-step.invariant.room)

pub loop-step-preserved : goal.loop-step-preserved
loop-step-preserved c = record {
  rising = c.take_step.ensures.rising;
  taken =
      c.take_step.ensures.value ∙ ap (λ rows. after_step rows c.in-Some.step) c.loop-step.invariant.taken
      ∙ sym (after_batch-append c.args.rows.now.items c.loop-step.yielded (c.in-Some.step ∷ []));
  room = omega (arith, length_push c.loop-step.yielded c.in-Some.step, c.loop-step.invariant.room, c.take_step.ensures.len, c.take_step.ensures.capacity);
}

pub returns-clause-value : goal.returns-clause-value
returns-clause-value c =
    let end = YieldsList-end (YieldsList-from_vec {s = c.into_iter-step-iterator.result} c.args.steps.items (search rules) (search rules))
    c.loop-step.yielded c.loop-step.step-iterator c.loop-step.yielded_by c.next.result c.next.new.self c.in-None.is c.next.ensures.steps in
    c.loop-step.invariant.taken ∙ ap (after_batch c.args.rows.now.items) (sym (map-id c.loop-step.yielded) ∙ end.0)
