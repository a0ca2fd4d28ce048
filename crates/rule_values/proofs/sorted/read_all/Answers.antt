use Rattle.std.proofs.Common.{[], ◌∷◌, ◌++◌, Some, subst, ap, ◌∙◌, arith}
use Rattle.repl_data.specs.declared.change.Val.{Val}
use Rattle.rule_values.specs.Refusing.{Fails}
use Rattle.rule_values.specs.Sorting.{read_one}
use Rattle.rule_values.proofs.Sorting.{read_go, read_stop, read_end}
use Rattle.rule_values.proofs.sorted.read_all.Goals as goal

pub loop-spelled-preserved : goal.loop-spelled-preserved
loop-spelled-preserved c =
    read_go c.args.attr.now c.loop-spelled.vals.items c.push.new.self.items c.args.given.now c.loop-spelled.spelled-index c.as_slice.result.now c.spelled-item.result c.in-Ok.val _ c.loop-spelled-test.true (c.as_slice.ensures ∙ c.spelled-item.is) c.loop-spelled.invariant
    c.in-Ok.ensures (c.in_ok-push-in-Ok.ensures.items ∙ ap (λ (v : Val). c.loop-spelled.vals.items ++ v ∷ []) c.of.ensures)

pub returns-in-Err-Refused : goal.returns-in-Err-Refused
returns-in-Err-Refused c =
    ap (λ w. (c.loop-spelled.vals.items, Some w)) c.in-Err-Refused.why-is
    ∙ read_stop c.args.attr.now c.loop-spelled.vals.items c.args.given.now c.loop-spelled.spelled-index c.as_slice.result.now c.spelled-item.result c.in-Err-Refused.why _ c.loop-spelled-test.true (c.as_slice.ensures ∙ c.spelled-item.is) c.loop-spelled.invariant
    (subst (λ e. Fails e (read_one c.args.attr.now c.as_slice.result.now)) c.in-Err-Refused.field-0-is c.in-Err-Refused.ensures)

pub returns : goal.returns
returns c = read_end c.args.attr.now c.loop-spelled.vals.items c.args.given.now c.loop-spelled.spelled-index _ (omega arith) c.loop-spelled.invariant
