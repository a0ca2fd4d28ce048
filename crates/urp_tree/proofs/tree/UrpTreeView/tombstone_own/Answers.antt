use Rattle.std.proofs.Common.{ap, ◌∙◌}
use Rattle.repl_data.specs.Lent.{tombstone_own_of}
use Rattle.urp_tree.specs.Known.{Known, known_view}
use Rattle.urp_tree.proofs.tree.UrpTreeView.tombstone_own.Goals as goal

pub returns : goal.returns
returns c = c.tombstone_own.ensures c.self.inside.suffix ∙ ap (λ (k : Known). tombstone_own_of (known_view k) c.args.id) c.self.view_is
