use Rattle.std.proofs.Common.{◌≡◌, map, drop}
use Rattle.filter_truth.specs.Three.{both, either, all_of, any_of}
use Rattle.filter_truth.specs.Truth.{shows}
use Rattle.filter_truth.specs.Prepared.{ready_by}
use Rattle.filter_truth.proofs.prepared.+told.Given as goal

abbrev pub invariant-all_told-loop-filter : goal.invariant-all_told-loop-filter
invariant-all_told-loop-filter l =
    let truth = ready_by (shows l.attrs) in
    all_of (map truth l.filters) ≡ both l.truth (all_of (map truth (drop l.filter-index l.filters)))

abbrev pub invariant-any_told-loop-filter : goal.invariant-any_told-loop-filter
invariant-any_told-loop-filter l =
    let truth = ready_by (shows l.attrs) in
    any_of (map truth l.filters) ≡ either l.truth (any_of (map truth (drop l.filter-index l.filters)))
