use Rattle.std.proofs.Common.{ap, ◌∙◌}
use Rattle.repl_data.specs.View.{name_of}
use Rattle.view_snap.specs.Told.{Shot}
use Rattle.view_snap.proofs.snapshot.SnapshotView.name.Goals as goal

pub name-requires : goal.name-requires
name-requires c = c.self.invariant.entries

pub returns : goal.returns
returns c = c.name.ensures c.self.inside.suffix ∙ ap (λ (k : Shot). name_of k.view c.args.id) c.self.view_is
