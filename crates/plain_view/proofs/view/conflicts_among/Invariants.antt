use Rattle.std.proofs.Common.{◌≡◌, ◌≤◌, take}
use Rattle.std.specs.Prelude.{count_by}
use Rattle.repl_data.specs.View.{lost_name}
use Rattle.plain_view.proofs.view.conflicts_among.Given as goal

abbrev pub invariant-loop-e : goal.invariant-loop-e
invariant-loop-e l = (l.count ≤ l.e-index) × (l.count ≡ count_by lost_name (take l.e-index l.present))
