use Rattle.std.proofs.Common.{◌≡◌, map, take}
use Rattle.plain_view.specs.Seen.{tombstone}
use Rattle.plain_view.proofs.rows.tombstones.Given as goal

abbrev pub invariant-loop-e : goal.invariant-loop-e
invariant-loop-e l = l.entries ≡ map (tombstone) (take l.e-index l.gone)
