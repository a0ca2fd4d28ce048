use Rattle.std.proofs.Common.{◌≡◌, ◌^◌, ◌-◌, take, min}
use Rattle.std.specs.Prelude.{sum_by}
use Rattle.repl_data.specs.Check.{val_weight}
use Rattle.repl_data.proofs.faults.vals_weight.Given as goal

abbrev pub invariant-loop-v : goal.invariant-loop-v
invariant-loop-v l = l.total ≡ min (sum_by val_weight (take l.v-index l.vals)) (2 ^ 128 - 1)
