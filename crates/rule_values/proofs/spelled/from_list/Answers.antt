use Rattle.std.proofs.Common.{[], sym, ap, ◌∙◌, rules, map-id}
use Rattle.std.proofs.lemmas.Iterator.Consumers.{YieldsList-end}
use Rattle.std.proofs.lemmas.Iterator.Adapters.{YieldsList-from_vec}
use Rattle.repl_data.specs.Plain.{add_values}
use Rattle.rule_values.proofs.SetLemmas.{puts_rising}
use Rattle.rule_values.proofs.spelled.from_list.Goals as goal

pub returns : goal.returns
returns c =
    let end = YieldsList-end (YieldsList-from_vec {s = c.into_iter-val-iterator.result} c.into_vec-val-items.result.items (search rules) (search rules))
    c.loop-val.yielded c.loop-val.val-iterator c.loop-val.yielded_by c.next.result c.next.new.self c.in-None.is c.next.ensures.steps in
    c.loop-val.invariant ∙ ap (λ vals. add_values vals []) (sym (map-id c.loop-val.yielded) ∙ end.0 ∙ c.into_vec-val-items.ensures) ∙ puts_rising c.args.vals c.requires
