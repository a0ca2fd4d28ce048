use Rattle.std.proofs.Common.{ap, ◌∙◌}
use Rattle.repl_data.specs.Lent.{tombstone_parent_of}
use Rattle.view_snap.specs.Told.{Shot}
use Rattle.view_snap.proofs.snapshot.SnapshotView.tombstone_parent.Goals as goal

pub tombstone_parent-requires : goal.tombstone_parent-requires
tombstone_parent-requires c = c.self.invariant.entries

pub returns : goal.returns
returns c = c.tombstone_parent.ensures c.self.inside.suffix ∙ ap (λ (k : Shot). tombstone_parent_of k.view c.args.id) c.self.view_is
