use Rattle.std.proofs.Common.{◌≡◌, map, drop}
use Rattle.filter_truth.specs.Three.{both, either, all_of, any_of}
use Rattle.filter_truth.specs.Prepared.{ready_by}
use Rattle.filter_truth.specs.Lent.{gone_shown_at}
use Rattle.filter_truth.proofs.gone.+told_gone.Given as goal

abbrev pub invariant-all_told_gone-loop-filter : goal.invariant-all_told_gone-loop-filter
invariant-all_told_gone-loop-filter g l =
    let truth = ready_by (gone_shown_at (g.V.View.view l.view) l.id) in
    all_of (map truth l.filters) ≡ both l.truth (all_of (map truth (drop l.filter-index l.filters)))

abbrev pub invariant-any_told_gone-loop-filter : goal.invariant-any_told_gone-loop-filter
invariant-any_told_gone-loop-filter g l =
    let truth = ready_by (gone_shown_at (g.V.View.view l.view) l.id) in
    any_of (map truth l.filters) ≡ either l.truth (any_of (map truth (drop l.filter-index l.filters)))
