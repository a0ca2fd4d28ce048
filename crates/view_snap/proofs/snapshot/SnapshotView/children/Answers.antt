use Rattle.std.proofs.Common.{ap, ◌∙◌}
use Rattle.repl_data.specs.View.{children_of}
use Rattle.urp_tree.proofs.Fits.{on_each}
use Rattle.view_snap.specs.Told.{Shot}
use Rattle.view_snap.proofs.snapshot.SnapshotView.children.Goals as goal

pub children-requires : goal.children-requires
children-requires c = c.self.invariant

pub returns : goal.returns
returns c = on_each c.children.result (λ ids h. h c.self.inside.suffix ∙ ap (λ (k : Shot). children_of k.view c.args.parent) c.self.view_is) c.children.ensures
