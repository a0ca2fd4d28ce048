use Rattle.std.proofs.Common.{sym, ◌∙◌, ◌++◌, ◌∷◌, []}
use Rattle.repl_data.specs.Order.{suffix_id}
use Rattle.repl_data.specs.Facts.{entry_facts}
use Rattle.repl_data.proofs.Loops.{map_more}
use Rattle.plain_view.proofs.facts.each_entry_facts.Goals as goal

pub loop-id-preserved : goal.loop-id-preserved
loop-id-preserved c =
    c.in_ok-push.ensures.ok ∙ (λ i. c.loop-id.invariant i ++ c.in_ok-one.ensures i ∷ [])
    ∙ sym (map_more (entry_facts c.args.suffix.now c.args.changes.now) c.args.ids.now c.loop-id.id-index suffix_id c.loop-id-test.true)
