use Rattle.std.proofs.Common.{ap, ◌∙◌}
use Rattle.repl_data.specs.View.{entry_of}
use Rattle.urp_tree.proofs.Fits.{on_each}
use Rattle.view_snap.specs.Told.{Shot, view_of_rows}
use Rattle.view_snap.proofs.snapshot.SnapshotView.entry.Goals as goal

pub entry-requires : goal.entry-requires
entry-requires c = c.self.invariant.entries

pub returns : goal.returns
returns c =
    on_each c.entry.result
    (λ shown h. h ∙ (λ i. entry_of (view_of_rows (c.as_slice.ensures i) c.self.inside.maps.entries) c.args.id) ∙ ap (λ (k : Shot). entry_of k.view c.args.id) c.self.view_is)
    c.entry.ensures
