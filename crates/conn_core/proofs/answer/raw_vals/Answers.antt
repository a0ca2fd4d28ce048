use Rattle.std.proofs.Common.{sym, ap, ◌∙◌, rules, map, map-id}
use Rattle.std.proofs.lemmas.Iterator.Consumers.{YieldsList-end}
use Rattle.std.proofs.lemmas.Iterator.Adapters.{YieldsList-from_vec}
use Rattle.repl_data.specs.declared.change.Val.{Val}
use Rattle.conn_core.proofs.answer.raw_vals.Goals as goal

pub returns : goal.returns
returns c =
    let end = YieldsList-end (YieldsList-from_vec {s = c.into_iter-val-iterator.result} c.into_vec-val-items.result.items (search rules) (search rules))
    c.loop-val.yielded c.loop-val.val-iterator c.loop-val.yielded_by c.next.result c.next.new.self c.in-None.is c.next.ensures.steps in
    c.loop-val.invariant ∙ ap (λ xs. map (λ (v : Val). v.spelled) xs) (sym (map-id c.loop-val.yielded) ∙ end.0 ∙ c.into_vec-val-items.ensures)
