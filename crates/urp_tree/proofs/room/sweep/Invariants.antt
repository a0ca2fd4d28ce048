use Rattle.std.proofs.Common.{◌≡◌, [], None}
use Rattle.urp_tree.specs.Rows.{facts_in}
use Rattle.urp_tree.specs.Known.{IsTree}
use Rattle.urp_tree.proofs.room.sweep.Given as goal

abbrev pub invariant-loop-s : goal.invariant-loop-s
invariant-loop-s l = (facts_in l.rows.entries ≡ facts_in l.initial.rows.entries) × IsTree l.rows None []
