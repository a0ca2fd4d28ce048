use Rattle.std.proofs.Common.{sym, ◌∙◌, rules, map-id}
use Rattle.std.proofs.lemmas.Iterator.Consumers.{YieldsList-end}
use Rattle.std.proofs.lemmas.Iterator.Adapters.{YieldsList-from_vec}
use Rattle.rule_values.proofs.table.to_attributes.Goals as goal

pub returns : goal.returns
returns c =
    let end = YieldsList-end (YieldsList-from_vec {s = c.into_iter-held-iterator.result} c.into_vec-held-items.result.items (search rules) (search rules))
    c.loop-held.yielded c.loop-held.held-iterator c.loop-held.yielded_by c.next.result c.next.new.self c.in-None.is c.next.ensures.steps in
    c.loop-held.invariant ∙ sym (map-id c.loop-held.yielded) ∙ end.0 ∙ c.into_vec-held-items.ensures
