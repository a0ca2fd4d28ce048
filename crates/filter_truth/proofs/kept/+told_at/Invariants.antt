use Rattle.std.proofs.Common.{◌≡◌, map, drop}
use Rattle.filter_truth.specs.Three.{both, either, all_of, any_of}
use Rattle.filter_truth.specs.Prepared.{ready_by}
use Rattle.filter_truth.specs.Lent.{shown_at}
use Rattle.filter_truth.proofs.kept.+told_at.Given as goal

abbrev pub invariant-all_told_at-loop-filter : goal.invariant-all_told_at-loop-filter
invariant-all_told_at-loop-filter g l =
    let truth = ready_by (shown_at (g.V.View.view l.view) l.id) in
    all_of (map truth l.filters) ≡ both l.truth (all_of (map truth (drop l.filter-index l.filters)))

abbrev pub invariant-any_told_at-loop-filter : goal.invariant-any_told_at-loop-filter
invariant-any_told_at-loop-filter g l =
    let truth = ready_by (shown_at (g.V.View.view l.view) l.id) in
    any_of (map truth l.filters) ≡ either l.truth (any_of (map truth (drop l.filter-index l.filters)))
