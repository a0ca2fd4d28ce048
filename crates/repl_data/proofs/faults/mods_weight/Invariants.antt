use Rattle.std.proofs.Common.{◌≡◌, ◌^◌, ◌-◌, take, min}
use Rattle.std.specs.Prelude.{sum_by}
use Rattle.repl_data.specs.declared.change.Mod.{Mod}
use Rattle.repl_data.specs.Check.{attr_weight}
use Rattle.repl_data.proofs.faults.mods_weight.Given as goal

abbrev pub invariant-loop-m : goal.invariant-loop-m
invariant-loop-m l = l.total ≡ min (sum_by (λ (m : Mod). attr_weight m.attr m.vals) (take l.m-index l.mods)) (2 ^ 128 - 1)
