use Rattle.std.proofs.Common.{sym, ap, ◌∙◌, ◌++◌, ◌∷◌, [], map}
use Rattle.plain_view.specs.Seen.{act_of}
use Rattle.repl_data.specs.Facts.{attr_facts}
use Rattle.repl_data.proofs.Loops.{map_more}
use Rattle.plain_view.proofs.facts.each_attr_facts.Goals as goal

pub loop-attr-preserved : goal.loop-attr-preserved
loop-attr-preserved c =
    let one = c.in_ok-one.ensures ∙ ap (attr_facts (map act_of c.args.acts.now)) c.attr-item.is in
    c.in_ok-push.ensures.ok ∙ (λ i. c.loop-attr.invariant i ++ one i ∷ [])
    ∙ sym (map_more (attr_facts (map act_of c.args.acts.now)) c.args.attrs.now c.loop-attr.attr-index c.attr-item.result c.loop-attr-test.true)
