use Rattle.std.proofs.Common.{ap, ◌∙◌}
use Rattle.repl_data.specs.View.{child_of}
use Rattle.view_snap.specs.Told.{Shot}
use Rattle.view_snap.proofs.snapshot.SnapshotView.child.Goals as goal

pub child-requires : goal.child-requires
child-requires c = c.self.invariant

pub returns : goal.returns
returns c = c.child.ensures c.self.inside.suffix ∙ ap (λ (k : Shot). child_of k.view c.args.parent c.args.rdn.now) c.self.view_is
