use Rattle.std.proofs.Common.{◌≡◌, ◌++◌, map, take}
use Rattle.std.specs.Prelude.{flat_map}
use Rattle.repl_data.specs.declared.change.Attr.{Attr}
use Rattle.repl_data.specs.Order.{stamp}
use Rattle.repl_data.specs.Stamps.{adds}
use Rattle.plain_view.specs.Seen.{act_of}
use Rattle.plain_view.proofs.acts.attrs_acts.Given as goal

abbrev pub invariant-loop-a : goal.invariant-loop-a
invariant-loop-a l = map act_of l.acts ≡ map act_of l.initial.acts ++ flat_map (λ (a : Attr). adds (stamp l.csn 0) a.attr a.vals) (take l.a-index l.attrs)
