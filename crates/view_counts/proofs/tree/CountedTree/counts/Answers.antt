use Rattle.std.proofs.Common.{ap, ◌∙◌}
use Rattle.urp_tree.specs.Known.{Known, known_view}
use Rattle.view_counts.specs.Counts.{counts_of}
use Rattle.view_counts.proofs.tree.CountedTree.counts.Goals as goal

pub returns : goal.returns
returns c = c.self.invariant.counts ∙ ap (λ (k : Known). counts_of (known_view k)) c.self.view_is
