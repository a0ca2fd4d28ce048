use Rattle.std.proofs.Common.{arith}
use Rattle.std.proofs.lemmas.Result.{err_from_is_err_and}
use Rattle.rule_values.specs.Having.{held}
use Rattle.rule_values.proofs.ModSteps.{rest_first, mods_go, mods_stop, mods_end, after_more, after_none}
use Rattle.rule_values.proofs.modify.carried.Goals as goal

pub loop-one-init : goal.loop-one-init
loop-one-init c = record {
  ordered = c.requires;
  so_far = rest_first (held c.args.own.now c.args.touched.now) c.new-mods.result c.args.given.now c.new-mods.ensures;
  is = after_none (held c.args.own.now c.args.touched.now) c.new-mods.result c.new-mods.ensures;
}

pub returns-in_err-m-clause-gives : goal.returns-in_err-m-clause-gives
returns-in_err-m-clause-gives c =
    let p = err_from_is_err_and c.from_residual.result c.from_residual.ensures.1 in
    rw (p.1, p.2) (mods_stop (held c.args.own.now c.loop-one.touched) c.loop-one.mods c.args.given.now c.loop-one.one-index c.one-item.result _ c.in_err-m.field-0.0 c.loop-one-test.true c.one-item.is c.loop-one.invariant.so_far c.in_err-m.ensures.gives)

pub loop-one-preserved : goal.loop-one-preserved
loop-one-preserved c = record {
  ordered = c.in_ok-m.ensures.ordered;
  so_far = mods_go (held c.args.own.now c.loop-one.touched) (held c.args.own.now c.step.new.touched) c.loop-one.mods c.push.new.self c.in_ok-m.m c.args.given.now c.loop-one.one-index c.one-item.result _ c.loop-one-test.true c.one-item.is c.loop-one.invariant.so_far c.in_ok-m.ensures.gives c.in_ok-m.ensures.after c.in_ok-push.ensures.ok;
  is = after_more (held c.args.own.now c.args.touched.now) (held c.args.own.now c.loop-one.touched) (held c.args.own.now c.step.new.touched) c.loop-one.mods c.push.new.self c.in_ok-m.m c.loop-one.invariant.is c.in_ok-m.ensures.after c.in_ok-push.ensures.ok;
}

pub returns-clause-gives : goal.returns-clause-gives
returns-clause-gives c =
    mods_end (held c.args.own.now c.loop-one.touched) c.loop-one.mods c.args.given.now c.loop-one.one-index _ (omega arith) c.loop-one.invariant.so_far
