use Rattle.std.proofs.Common.{ap, ◌∙◌}
use Rattle.repl_data.specs.Lent.{tombstone_own_of}
use Rattle.view_snap.specs.Told.{Shot}
use Rattle.view_snap.proofs.snapshot.SnapshotView.tombstone_own.Goals as goal

pub tombstone_own-requires : goal.tombstone_own-requires
tombstone_own-requires c = c.self.invariant.entries

pub returns : goal.returns
returns c = c.tombstone_own.ensures c.self.inside.suffix ∙ ap (λ (k : Shot). tombstone_own_of k.view c.args.id) c.self.view_is
