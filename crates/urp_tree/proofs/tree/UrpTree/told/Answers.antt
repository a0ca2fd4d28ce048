use Rattle.urp_tree.specs.Known.{Known, known_view}
use Rattle.urp_tree.specs.Moves.{IsViewMove, empty_view}
use Rattle.urp_tree.proofs.Fits.{on_each}
use Rattle.urp_tree.proofs.Plans.{idle}
use Rattle.std.proofs.Common.{subst}
use Rattle.urp_tree.proofs.tree.UrpTree.told.Goals as goal

pub told-requires : goal.told-requires
told-requires c = idle c.self.inside.rows c.self.inside.target c.self.inside.steps c.self.invariant

pub returns : goal.returns
returns c = on_each c.told.result (λ cs h. subst (λ (k : Known). IsViewMove (empty_view k.suffix) (known_view k) cs) c.self.view_is (h c.self.inside.suffix)) c.told.ensures
