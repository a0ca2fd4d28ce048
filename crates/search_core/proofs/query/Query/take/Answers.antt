use Rattle.std.proofs.Common.{[], ◌∷◌, ◌++◌, sym, ap, ◌∙◌}
use Rattle.std.proofs.lemmas.Result.{on_ok_weaker}
use Rattle.search_core.proofs.Taken.{take_room}
use Rattle.search_core.proofs.query.Query.take.Goals as goal

pub returns : goal.returns
returns c =
    on_ok_weaker c.push.result
    (λ new r all asks was.
    (λ i. record { entries = (new ∙ ap (λ e. c.args.hits.now.entries ++ e ∷ []) c.in_ok-entry.ensures) i; over = c.args.hits.now.over })
    ∙ take_room c.args.self.now r all c.args.entry c.args.hits.now asks was (sym c.is_full.ensures ∙ c.if-is_full.false))
    c.push.ensures.ok
