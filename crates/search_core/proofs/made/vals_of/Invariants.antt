use Rattle.std.proofs.Common.{◌≡◌, map, take}
use Rattle.search_core.specs.Made.{directory_val}
use Rattle.search_core.proofs.made.vals_of.Given as goal

abbrev pub invariant-loop-one : goal.invariant-loop-one
invariant-loop-one l = l.vals ≡ map directory_val (take l.one-index l.texts)
