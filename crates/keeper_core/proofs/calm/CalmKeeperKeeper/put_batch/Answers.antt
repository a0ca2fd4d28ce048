use Rattle.std.proofs.Common.{◌≡◌, List, [], ◌∷◌, ◌++◌, Result, sym, subst, ◌∙◌}
use Rattle.std.specs.Prelude.{OnOk}
use Rattle.keeper_core.specs.declared.keeper.KeepFault.{KeepFault}
use Rattle.keeper_core.specs.declared.row.BatchStep.{BatchStep}
use Rattle.keeper_core.specs.Accepted.{after_batches}
use Rattle.keeper_core.proofs.History.{left_more}
use Rattle.keeper_core.proofs.calm.CalmKeeperKeeper.put_batch.Goals.{in-Ok, in-Err}
use Rattle.keeper_core.proofs.calm.CalmKeeperKeeper.put_batch.Goals as goal

pub returns-clause-accepted : goal.returns-clause-accepted
returns-clause-accepted c =
    let new = c.put_all.new.rows.items in
    let batch = c.args.batch.now in
    let P : Result (Unit {0}) KeepFault → Type 0 = λ r. OnOk r ((batches : List (List BatchStep)) → c.args.self.now ≡ after_batches [] batches → new ≡ after_batches [] (batches ++ batch ∷ [])) in
    elim c.match-put_all.branch [
      | in-Ok w ↦ subst P (sym w.result-is) (λ batches is. left_more c.self.inside.rows.items new batches batch w.in-Ok.ensures.ok (c.self.view_is ∙ is))
      | in-Err w ↦ subst P (sym w.result-is) tt
    ]
