use Rattle.std.proofs.Common.{◌≡◌, ◌^◌, ◌-◌, take, min}
use Rattle.std.specs.Prelude.{sum_by}
use Rattle.repl_data.specs.declared.change.Attr.{Attr}
use Rattle.repl_data.specs.Check.{attr_weight}
use Rattle.repl_data.proofs.faults.attrs_weight.Given as goal

abbrev pub invariant-loop-a : goal.invariant-loop-a
invariant-loop-a l = l.total ≡ min (sum_by (λ (a : Attr). attr_weight a.attr a.vals) (take l.a-index l.attrs)) (2 ^ 128 - 1)
