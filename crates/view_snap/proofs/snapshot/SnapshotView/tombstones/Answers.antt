use Rattle.std.proofs.Common.{ap, ◌∙◌}
use Rattle.repl_data.specs.View.{tombstones_of}
use Rattle.urp_tree.proofs.Fits.{on_each}
use Rattle.view_snap.specs.Told.{Shot}
use Rattle.view_snap.proofs.snapshot.SnapshotView.tombstones.Goals as goal

pub returns : goal.returns
returns c = on_each c.tombstones.result (λ ids h. h c.self.inside.suffix ∙ ap (λ (k : Shot). tombstones_of k.view) c.self.view_is) c.tombstones.ensures
