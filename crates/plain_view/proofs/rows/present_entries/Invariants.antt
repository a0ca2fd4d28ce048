use Rattle.std.proofs.Common.{◌≡◌, map, take}
use Rattle.plain_view.specs.Seen.{present_entry}
use Rattle.plain_view.proofs.rows.present_entries.Given as goal

abbrev pub invariant-loop-e : goal.invariant-loop-e
invariant-loop-e l = l.entries ≡ map (present_entry l.present) (take l.e-index l.present)
