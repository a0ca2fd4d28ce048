use Rattle.std.proofs.Common.{ap, ◌∙◌}
use Rattle.repl_data.specs.Lent.{own_of}
use Rattle.urp_tree.specs.Known.{Known, known_view}
use Rattle.urp_tree.proofs.tree.UrpTreeView.own.Goals as goal

pub returns : goal.returns
returns c = c.own.ensures c.self.inside.suffix ∙ ap (λ (k : Known). own_of (known_view k) c.args.id) c.self.view_is
