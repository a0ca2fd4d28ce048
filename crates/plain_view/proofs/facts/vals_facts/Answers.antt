use Rattle.std.proofs.Common.{sym, ap, ◌∙◌, ◌++◌, ◌∷◌, [], map}
use Rattle.plain_view.specs.Seen.{act_of}
use Rattle.repl_data.specs.Facts.{val_facts}
use Rattle.repl_data.proofs.Loops.{map_more}
use Rattle.plain_view.proofs.facts.vals_facts.Goals as goal

pub loop-key-preserved : goal.loop-key-preserved
loop-key-preserved c =
    let one = c.in_ok-val.ensures ∙ ap (val_facts (map act_of c.args.acts.now)) c.key-item.is in
    c.in_ok-push.ensures.ok ∙ (λ i. c.loop-key.invariant i ++ one i ∷ [])
    ∙ sym (map_more (val_facts (map act_of c.args.acts.now)) c.args.keys.now c.loop-key.key-index c.key-item.result c.loop-key-test.true)
