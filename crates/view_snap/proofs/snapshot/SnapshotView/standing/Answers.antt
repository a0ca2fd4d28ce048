use Rattle.std.proofs.Common.{ap, ◌∙◌}
use Rattle.repl_data.specs.Lent.{standing_of}
use Rattle.view_snap.specs.Told.{Shot}
use Rattle.view_snap.proofs.snapshot.SnapshotView.standing.Goals as goal

pub standing-requires : goal.standing-requires
standing-requires c = c.self.invariant.entries

pub returns : goal.returns
returns c = c.standing.ensures c.self.inside.suffix ∙ ap (λ (k : Shot). standing_of k.view c.args.id) c.self.view_is
