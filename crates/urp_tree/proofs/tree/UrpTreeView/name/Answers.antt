use Rattle.std.proofs.Common.{ap, ◌∙◌}
use Rattle.repl_data.specs.View.{name_of}
use Rattle.urp_tree.specs.Known.{Known, known_view}
use Rattle.urp_tree.proofs.tree.UrpTreeView.name.Goals as goal

pub returns : goal.returns
returns c = c.name.ensures c.self.inside.suffix ∙ ap (λ (k : Known). name_of (known_view k) c.args.id) c.self.view_is
