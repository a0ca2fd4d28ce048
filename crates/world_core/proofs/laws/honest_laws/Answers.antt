use Rattle.world_core.proofs.Runs.{prefixes_hold, agreement_holds}
use Rattle.world_core.proofs.Views.{views_hold}
use Rattle.world_core.proofs.laws.honest_laws.Goals as goal

pub returns-clause-prefixes : goal.returns-clause-prefixes
returns-clause-prefixes c = prefixes_hold

pub returns-clause-agreement : goal.returns-clause-agreement
returns-clause-agreement c = agreement_holds

pub returns-clause-views : goal.returns-clause-views
returns-clause-views c = views_hold
