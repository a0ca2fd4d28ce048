use Rattle.std.proofs.Common.{◌≡◌, ◌≤◌, take}
use Rattle.std.specs.Prelude.{count_by}
use Rattle.repl_data.specs.View.{PresentEntry}
use Rattle.plain_view.proofs.view.glue_among.Given as goal

abbrev pub invariant-loop-e : goal.invariant-loop-e
invariant-loop-e l = (l.count ≤ l.e-index) × (l.count ≡ count_by (λ (e : PresentEntry). e.is_glue) (take l.e-index l.present))
