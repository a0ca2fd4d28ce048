use Rattle.std.proofs.Common.{ap, ◌∙◌}
use Rattle.repl_data.specs.Lent.{own_of}
use Rattle.view_snap.specs.Told.{Shot}
use Rattle.view_snap.proofs.snapshot.SnapshotView.own.Goals as goal

pub own-requires : goal.own-requires
own-requires c = c.self.invariant.entries

pub returns : goal.returns
returns c = c.own.ensures c.self.inside.suffix ∙ ap (λ (k : Shot). own_of k.view c.args.id) c.self.view_is
