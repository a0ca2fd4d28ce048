use Rattle.std.proofs.Common.{◌≡◌, ◌++◌, map, take}
use Rattle.repl_data.specs.declared.change.Ava.{Ava}
use Rattle.repl_data.specs.Stamps.{Adds}
use Rattle.plain_view.specs.Seen.{act_of}
use Rattle.plain_view.proofs.acts.add_parts.Given as goal

abbrev pub invariant-loop-a : goal.invariant-loop-a
invariant-loop-a l = map act_of l.acts ≡ map act_of l.initial.acts ++ map (λ (a : Ava). Adds l.stamp a.attr a.val) (take l.a-index l.parts)
