use Rattle.std.proofs.Common.{◌≡◌, take}
use Rattle.urp_tree.specs.declared.changed.Changed.{Changed}
use Rattle.urp_tree.specs.Known.{known_view}
use Rattle.view_counts.specs.Tally.{counted_in, total}
use Rattle.view_counts.proofs.tally.all_before.Given as goal

abbrev pub invariant-loop-entry : goal.invariant-loop-entry
invariant-loop-entry l = l.sum ≡ total (λ (c : Changed). counted_in (known_view l.tree) c.id) (take l.entry-index l.entries)
