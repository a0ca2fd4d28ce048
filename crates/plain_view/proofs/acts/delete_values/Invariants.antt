use Rattle.std.proofs.Common.{◌≡◌, ◌++◌, map, take}
use Rattle.repl_data.specs.Stamps.{Deletes}
use Rattle.plain_view.specs.Seen.{act_of}
use Rattle.plain_view.proofs.acts.delete_values.Given as goal

abbrev pub invariant-loop-val : goal.invariant-loop-val
invariant-loop-val l = map act_of l.acts ≡ map act_of l.initial.acts ++ map (Deletes l.stamp l.attr) (take l.val-index l.vals)
