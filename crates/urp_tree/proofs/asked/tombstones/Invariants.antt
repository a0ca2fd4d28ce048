use Rattle.std.proofs.Common.{◌≡◌, ◌++◌}
use Rattle.urp_tree.specs.Rows.{facts_in}
use Rattle.urp_tree.specs.Seen.{gone_ids}
use Rattle.urp_tree.proofs.asked.tombstones.Given as goal

abbrev pub invariant-loop-id : goal.invariant-loop-id
invariant-loop-id l = l.ids ++ gone_ids (facts_in l.rows.entries) (facts_in l.id-iterator) ≡ gone_ids (facts_in l.rows.entries) (facts_in l.rows.entries)
