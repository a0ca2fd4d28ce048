use Rattle.std.proofs.Common.{ap, ◌∙◌}
use Rattle.repl_data.specs.View.{parent_of}
use Rattle.view_snap.specs.Told.{Shot}
use Rattle.view_snap.proofs.snapshot.SnapshotView.parent.Goals as goal

pub parent-requires : goal.parent-requires
parent-requires c = c.self.invariant.entries

pub returns : goal.returns
returns c = c.parent.ensures c.self.inside.suffix ∙ ap (λ (k : Shot). parent_of k.view c.args.id) c.self.view_is
