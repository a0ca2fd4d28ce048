use Rattle.agreement_run.proofs.Turned.{runs_nothing}
use Rattle.agreement_run.proofs.session.run_session.Goals as goal

pub returns-in_default : goal.returns-in_default
returns-in_default g c = runs_nothing g.S.Supply.supplying _ _ _ _

pub returns : goal.returns
returns g c = rw c.in-Ok.ensures at c.run.ensures

pub returns-in_default-new : goal.returns-in_default-new
returns-in_default-new g c = runs_nothing g.S.Supply.supplying _ _ _ _
