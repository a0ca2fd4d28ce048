use Rattle.std.proofs.Common.{sym, ap, ◌∙◌, rules, map, map-id}
use Rattle.std.proofs.lemmas.Iterator.Consumers.{YieldsList-end}
use Rattle.std.proofs.lemmas.Iterator.Adapters.{YieldsList-from_vec}
use Rattle.conn_core.specs.Serving.{raw_attr}
use Rattle.conn_core.proofs.answer.raw_attrs.Goals as goal

pub returns : goal.returns
returns c =
    let end = YieldsList-end (YieldsList-from_vec {s = c.into_iter-shown-iterator.result} c.into_vec-shown-items.result.items (search rules) (search rules))
    c.loop-shown.yielded c.loop-shown.shown-iterator c.loop-shown.yielded_by c.next.result c.next.new.self c.in-None.is c.next.ensures.steps in
    c.loop-shown.invariant ∙ ap (λ xs. map (raw_attr) xs) (sym (map-id c.loop-shown.yielded) ∙ end.0 ∙ c.into_vec-shown-items.ensures)
