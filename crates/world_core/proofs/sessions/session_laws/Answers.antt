use Rattle.world_core.proofs.Later.{sessions_hold, progress_holds, cursors_hold}
use Rattle.world_core.proofs.sessions.session_laws.Goals as goal

pub returns-clause-welcome : goal.returns-clause-welcome
returns-clause-welcome c = sessions_hold

pub returns-clause-progress : goal.returns-clause-progress
returns-clause-progress c = progress_holds

pub returns-clause-cursors : goal.returns-clause-cursors
returns-clause-cursors c = cursors_hold
