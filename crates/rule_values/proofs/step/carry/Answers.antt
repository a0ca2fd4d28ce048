use Rattle.std.proofs.Common.{List, subst, sym, ap, ◌∙◌}
use Rattle.std.proofs.lemmas.Result.{err_from_is_err_and}
use Rattle.repl_data.specs.declared.change.Val.{Val}
use Rattle.rule_values.specs.Refusing.{Fails}
use Rattle.rule_values.specs.Having.{held, changed}
use Rattle.rule_values.specs.Modify.{fits}
use Rattle.rule_values.proofs.ModSteps.{held_after}
use Rattle.rule_values.proofs.Stepping.{change_fails, change_done}
use Rattle.rule_values.proofs.step.carry.Goals as goal

pub returns-in_err-vals-clause-fits : goal.returns-in_err-vals-clause-fits
returns-in_err-vals-clause-fits c =
    let m = c.args.m.now in
    let p = err_from_is_err_and c.from_residual-in_err-vals.result c.from_residual-in_err-vals.ensures.1 in
    rw (p.1, p.2) (change_fails m.kind m.vals (held c.args.own.now c.args.touched.now m.attr.name) c.in_err-vals.field-0.0
    (subst (λ (had : List Val). Fails c.in_err-vals.field-0.0 (changed m.kind m.vals had)) c.in_ok-had.ensures.value c.in_err-vals.ensures))

pub returns-clause-fits : goal.returns-clause-fits
returns-clause-fits c =
    let m = c.args.m.now in
    ap (fits m.kind m.vals) (sym c.in_ok-had.ensures.value) ∙ (change_done m.kind m.vals c.in_ok-had.had c.in_ok-vals.vals c.in_ok-vals.ensures).0

pub returns-clause-after : goal.returns-clause-after
returns-clause-after c =
    let m = c.args.m.now in
    held_after c.args.own.now c.args.touched.now c.take_held.new.touched c.put_attribute.new.attrs m c.in_ok-copy_attr.field-0 c.in_ok-vals.vals c.in_ok-had.had
    c.in_ok-copy_attr.ensures c.in_ok-had.ensures.value (change_done m.kind m.vals c.in_ok-had.had c.in_ok-vals.vals c.in_ok-vals.ensures).1 c.in_ok-had.ensures.put c.in_ok-put_attribute.ensures.value
