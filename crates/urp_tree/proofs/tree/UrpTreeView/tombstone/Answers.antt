use Rattle.std.proofs.Common.{ap, ◌∙◌}
use Rattle.repl_data.specs.View.{view_of_facts, tombstone_of}
use Rattle.urp_tree.specs.Rows.{facts_in}
use Rattle.urp_tree.specs.Known.{Known, known_view}
use Rattle.urp_tree.proofs.Fits.{on_each}
use Rattle.urp_tree.proofs.tree.UrpTreeView.tombstone.Goals as goal

pub returns : goal.returns
returns c =
    on_each c.tombstone.result
    (λ shown h. h ∙ (λ i. tombstone_of (view_of_facts (c.as_slice.ensures i) (facts_in c.self.inside.rows.entries)) c.args.id) ∙ ap (λ (k : Known). tombstone_of (known_view k) c.args.id) c.self.view_is)
    c.tombstone.ensures
