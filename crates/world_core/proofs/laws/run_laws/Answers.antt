use Rattle.world_core.proofs.Runs.{draws_hold, own_entries_hold}
use Rattle.world_core.proofs.ClosedRuns.{closed_holds}
use Rattle.world_core.proofs.Forms.{forms_hold}
use Rattle.world_core.proofs.laws.run_laws.Goals as goal

pub returns-clause-draws : goal.returns-clause-draws
returns-clause-draws c = draws_hold

pub returns-clause-own_entries : goal.returns-clause-own_entries
returns-clause-own_entries c = own_entries_hold

pub returns-clause-closed : goal.returns-clause-closed
returns-clause-closed c = closed_holds

pub returns-clause-forms : goal.returns-clause-forms
returns-clause-forms c = forms_hold
