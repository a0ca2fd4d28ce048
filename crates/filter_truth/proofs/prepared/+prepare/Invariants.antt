use Rattle.std.proofs.Common.{◌≡◌, map, take}
use Rattle.filter_truth.specs.Truth.{Shows, truth_by}
use Rattle.filter_truth.specs.Prepared.{ready_by}
use Rattle.filter_truth.proofs.prepared.+prepare.Given as goal

abbrev pub invariant-prepare_all-loop-filter : goal.invariant-prepare_all-loop-filter
invariant-prepare_all-loop-filter l = (shown : Shows) → map (ready_by shown) l.all ≡ map (truth_by shown) (take l.filter-index l.filters)
