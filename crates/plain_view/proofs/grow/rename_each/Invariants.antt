use Rattle.std.proofs.Common.{◌≡◌, map, drop}
use Rattle.std.specs.Prelude.{filter}
use Rattle.plain_view.specs.Growth.{joined_name, yields, renamed}
use Rattle.plain_view.proofs.Places.{changed_to}
use Rattle.plain_view.proofs.grow.rename_each.Given as goal

abbrev pub invariant-loop-e : goal.invariant-loop-e
invariant-loop-e l = (l.entries ≡ changed_to (renamed l.new) l.e-index l.initial.entries) × (l.names ≡ map joined_name (filter (yields l.new) (drop l.e-index l.initial.entries)))
