use Rattle.std.proofs.Common.{ap, ◌∙◌}
use Rattle.repl_data.specs.View.{tombstones_of}
use Rattle.urp_tree.specs.Known.{Known, known_view}
use Rattle.urp_tree.proofs.Fits.{on_each}
use Rattle.urp_tree.proofs.tree.UrpTreeView.tombstones.Goals as goal

pub returns : goal.returns
returns c = on_each c.tombstones.result (λ ids h. h c.self.inside.suffix ∙ ap (λ (k : Known). tombstones_of (known_view k)) c.self.view_is) c.tombstones.ensures
