use Rattle.std.proofs.Common.{ap, ◌∙◌}
use Rattle.repl_data.specs.View.{child_of}
use Rattle.urp_tree.specs.Known.{Known, known_view}
use Rattle.urp_tree.proofs.tree.UrpTreeView.child.Goals as goal

pub returns : goal.returns
returns c = c.child.ensures c.self.inside.suffix ∙ ap (λ (k : Known). child_of (known_view k) c.args.parent c.args.rdn.now) c.self.view_is
