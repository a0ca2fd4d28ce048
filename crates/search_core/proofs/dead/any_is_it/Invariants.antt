use Rattle.std.proofs.Common.{◌≡◌, drop}
use Rattle.std.specs.List.{list_any}
use Rattle.search_core.specs.Dead.{is_it}
use Rattle.search_core.proofs.dead.any_is_it.Given as goal

abbrev pub invariant-loop-filter : goal.invariant-loop-filter
invariant-loop-filter l = list_any is_it l.filters ≡ list_any is_it (drop l.filter-index l.filters)
