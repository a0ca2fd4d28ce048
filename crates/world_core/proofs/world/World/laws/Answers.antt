use Rattle.std.proofs.Common.{subst}
use Rattle.world_core.specs.Taken.{IsKept}
use Rattle.world_core.proofs.OneWorld.{closed_in, formed_in, honest_in, views_in}
use Rattle.world_core.proofs.Runs.{own_entries, agree}
use Rattle.world_core.proofs.Later.{offers_welcome, offers_taken}
use Rattle.node_core.specs.Steps.{judge_view}
use Rattle.world_core.proofs.world.World.laws.Goals as goal

pub returns-clause-came : goal.returns-clause-came
returns-clause-came c = (subst IsKept c.self.view_is c.self.invariant).came

pub returns-clause-lawful : goal.returns-clause-lawful
returns-clause-lawful c = (subst IsKept c.self.view_is c.self.invariant).lawful

pub returns-clause-taken : goal.returns-clause-taken
returns-clause-taken c = (subst IsKept c.self.view_is c.self.invariant).taken

pub returns-clause-closed : goal.returns-clause-closed
returns-clause-closed c = closed_in c.judge_laws.ensures.sound _ (subst IsKept c.self.view_is c.self.invariant)

pub returns-clause-forms : goal.returns-clause-forms
returns-clause-forms c = formed_in c.judge_laws.ensures.sound _ (subst IsKept c.self.view_is c.self.invariant)

pub returns-clause-own_entries : goal.returns-clause-own_entries
returns-clause-own_entries c = own_entries _ (subst IsKept c.self.view_is c.self.invariant).lawful

pub returns-clause-honest : goal.returns-clause-honest
returns-clause-honest c = honest_in _

pub returns-clause-agreement : goal.returns-clause-agreement
returns-clause-agreement c = agree _ (subst IsKept c.self.view_is c.self.invariant).lawful

pub returns-clause-views : goal.returns-clause-views
returns-clause-views c = views_in c.judge_laws.ensures.sound _ (subst IsKept c.self.view_is c.self.invariant)

pub returns-clause-welcome : goal.returns-clause-welcome
returns-clause-welcome c =
    let k = subst IsKept c.self.view_is c.self.invariant in
    offers_welcome judge_view _ k.lawful (closed_in c.judge_laws.ensures.sound _ k)

pub returns-clause-progress : goal.returns-clause-progress
returns-clause-progress c =
    let k = subst IsKept c.self.view_is c.self.invariant in
    offers_taken judge_view _ k.lawful (closed_in c.judge_laws.ensures.sound _ k)
