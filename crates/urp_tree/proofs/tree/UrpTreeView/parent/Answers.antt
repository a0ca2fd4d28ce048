use Rattle.std.proofs.Common.{ap, ◌∙◌}
use Rattle.repl_data.specs.View.{parent_of}
use Rattle.urp_tree.specs.Known.{Known, known_view}
use Rattle.urp_tree.proofs.tree.UrpTreeView.parent.Goals as goal

pub returns : goal.returns
returns c = c.parent.ensures c.self.inside.suffix ∙ ap (λ (k : Known). parent_of (known_view k) c.args.id) c.self.view_is
