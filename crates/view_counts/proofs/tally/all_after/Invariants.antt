use Rattle.std.proofs.Common.{◌≡◌, take}
use Rattle.view_counts.specs.Tally.{counted_after, total}
use Rattle.view_counts.proofs.tally.all_after.Given as goal

abbrev pub invariant-loop-entry : goal.invariant-loop-entry
invariant-loop-entry l = l.sum ≡ total counted_after (take l.entry-index l.entries)
