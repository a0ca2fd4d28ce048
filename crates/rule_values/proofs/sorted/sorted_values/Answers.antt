use Rattle.std.proofs.Common.{◌≡◌, List, subst, sym, is_lt}
use Rattle.std.specs.List.{IsAllAdjacentAnswer}
use Rattle.std.proofs.lemmas.Result.{IfOk-weaker}
use Rattle.repl_data.specs.declared.change.Val.{Val}
use Rattle.repl_data.specs.Ordered.{Rises}
use Rattle.rule_values.specs.Having.{val_key}
use Rattle.rule_values.specs.Heads.{val_cmp}
use Rattle.rule_values.specs.Refusing.{Gives}
use Rattle.rule_values.proofs.Sorting.{when_rising, sorted_at_once}
use Rattle.rule_values.proofs.sorted.sorted_values.Goals as goal

pub returns-clause-gives : goal.returns-clause-gives
returns-clause-gives c =
    let answer = subst (λ (vals : List Val). IsAllAdjacentAnswer (λ (a : Val) (b : Val) t. t ≡ is_lt (val_cmp a b)) vals c.is_rising-rising.result) c.as_slice.ensures.value c.is_rising-rising.ensures in
    subst (Gives c.in_turn.result)
    (sym (sorted_at_once c.args.attr.now c.args.given.now c.in_ok-vals.field-0.vals.items c.sort.new.vals.items c.in_ok-vals.field-0.why c.is_rising-rising.result c.in_ok-vals.ensures c.in_ok-sort.ensures.same c.in_ok-sort.ensures.sorted answer))
    c.in_turn.ensures.gives

pub returns-clause-rises : goal.returns-clause-rises
returns-clause-rises c =
    let answer = subst (λ (vals : List Val). IsAllAdjacentAnswer (λ (a : Val) (b : Val) t. t ≡ is_lt (val_cmp a b)) vals c.is_rising-rising.result) c.as_slice.ensures.value c.is_rising-rising.ensures in
    IfOk-weaker c.in_turn.result _ (Rises val_key) (λ list h. subst (Rises val_key) (sym h.1) (when_rising c.sort.new.vals.items c.is_rising-rising.result answer h.0)) c.in_turn.ensures.list
