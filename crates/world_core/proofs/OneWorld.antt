-- What holds of a world that its type keeps, by the laws over runs.
use Rattle.std.proofs.Common.{subst}
use Rattle.node_core.specs.Steps.{judge_view}
use Rattle.node_core.specs.Sound.{IsSoundJudge}
use Rattle.world_core.specs.World.{World, new_world}
use Rattle.world_core.specs.Laws.{HasRun, IsHonestRun, IsHonest, HoldClosed, AreFormed, ShowTheSame}
use Rattle.world_core.specs.Taken.{IsKept}
use Rattle.world_core.proofs.Runs.{prefixes_hold, new_lawful}
use Rattle.world_core.proofs.ClosedRuns.{AreArrivals, arrivals_all, new_arrivals, closed_holds}
use Rattle.world_core.proofs.Forms.{forms_hold}
use Rattle.world_core.proofs.Views.{AreOf, suffixes_all, show_the_same}

pub honest_in : (w : World) (r : HasRun judge_view w) → IsHonestRun judge_view (new_world r.suffix r.count) r.deeds → IsHonest w
honest_in w r h = subst (λ x. IsHonest x) r.ends (prefixes_hold judge_view r.suffix r.count r.few r.deeds r.run h)

module _ (sj : IsSoundJudge judge_view) (w : World) (k : IsKept w) where
  pub closed_in : HoldClosed w
  closed_in = subst (λ x. HoldClosed x) k.came.ends (closed_holds judge_view sj k.came.suffix k.came.count k.came.few k.came.deeds k.came.run)

  pub formed_in : AreFormed w
  formed_in = subst (λ x. AreFormed x) k.came.ends (forms_hold judge_view sj k.came.suffix k.came.count k.came.few k.came.deeds k.came.run)

  pub views_in : IsHonest w → ShowTheSame w
  views_in h =
      show_the_same w k.came.suffix k.lawful h
      (subst (λ (x : World). AreArrivals x.nodes) k.came.ends
      (arrivals_all judge_view sj (new_world k.came.suffix k.came.count) k.came.deeds k.came.run (new_lawful k.came.suffix k.came.count k.came.few) (new_arrivals k.came.suffix k.came.count)))
      (subst (λ (x : World). AreOf k.came.suffix x.nodes) k.came.ends (suffixes_all judge_view k.came.suffix k.came.count k.came.deeds k.came.few k.came.run))
