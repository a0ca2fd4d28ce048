use Rattle.std.proofs.Common.{◌≡◌, map, take}
use Rattle.std.specs.Prelude.{filter}
use Rattle.plain_view.specs.Growth.{joined_name, yields}
use Rattle.plain_view.proofs.grow.names_lost.Given as goal

abbrev pub invariant-loop-e : goal.invariant-loop-e
invariant-loop-e l = l.names ≡ map joined_name (filter (yields l.new) (take l.e-index l.present))
