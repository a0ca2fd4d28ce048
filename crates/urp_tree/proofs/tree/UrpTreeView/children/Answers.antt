use Rattle.std.proofs.Common.{ap, ◌∙◌}
use Rattle.repl_data.specs.View.{children_of}
use Rattle.urp_tree.specs.Known.{Known, known_view}
use Rattle.urp_tree.proofs.Fits.{on_each}
use Rattle.urp_tree.proofs.tree.UrpTreeView.children.Goals as goal

pub returns : goal.returns
returns c = on_each c.children.result (λ ids h. h c.self.inside.suffix ∙ ap (λ (k : Known). children_of (known_view k) c.args.parent) c.self.view_is) c.children.ensures
