use Rattle.std.proofs.Common.{◌≡◌, ◌^◌, ◌-◌, take, min}
use Rattle.std.specs.Prelude.{sum_by}
use Rattle.repl_data.specs.Check.{part_weight}
use Rattle.repl_data.proofs.faults.parts_weight.Given as goal

abbrev pub invariant-loop-a : goal.invariant-loop-a
invariant-loop-a l = l.total ≡ min (sum_by part_weight (take l.a-index l.parts)) (2 ^ 128 - 1)
