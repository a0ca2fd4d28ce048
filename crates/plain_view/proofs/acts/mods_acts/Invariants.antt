use Rattle.std.proofs.Common.{◌≡◌, ◌+◌, ◌++◌, map, drop}
use Rattle.repl_data.specs.Stamps.{mods_acts}
use Rattle.plain_view.specs.Seen.{act_of}
use Rattle.plain_view.proofs.acts.mods_acts.Given as goal

abbrev pub invariant-loop-i : goal.invariant-loop-i
invariant-loop-i l = map act_of l.acts ++ mods_acts l.csn (l.i + 1) (drop l.i l.mods) ≡ map act_of l.initial.acts ++ mods_acts l.csn 1 l.mods
