use Rattle.std.proofs.Common.{ap, ◌∙◌}
use Rattle.repl_data.specs.View.{tombstone_of}
use Rattle.urp_tree.proofs.Fits.{on_each}
use Rattle.view_snap.specs.Told.{Shot, view_of_rows}
use Rattle.view_snap.proofs.snapshot.SnapshotView.tombstone.Goals as goal

pub tombstone-requires : goal.tombstone-requires
tombstone-requires c = c.self.invariant.entries

pub returns : goal.returns
returns c =
    on_each c.tombstone.result
    (λ shown h. h ∙ (λ i. tombstone_of (view_of_rows (c.as_slice.ensures i) c.self.inside.maps.entries) c.args.id) ∙ ap (λ (k : Shot). tombstone_of k.view c.args.id) c.self.view_is)
    c.tombstone.ensures
