use Rattle.std.proofs.Common.{◌≡◌, ◌++◌, flat_map}
use Rattle.view_snap.specs.Told.{gone_ids}
use Rattle.view_snap.proofs.asked.tombstones.Given as goal

abbrev pub invariant-loop-id : goal.invariant-loop-id
invariant-loop-id l = l.ids ++ flat_map gone_ids l.id-iterator ≡ flat_map gone_ids l.entries
