use Rattle.std.proofs.Common.{◌≡◌, map, take}
use Rattle.repl_data.specs.View.{Tombstone}
use Rattle.plain_view.proofs.view.tombstone_ids.Given as goal

abbrev pub invariant-loop-e : goal.invariant-loop-e
invariant-loop-e l = l.ids ≡ map (λ (e : Tombstone). e.id) (take l.e-index l.gone)
