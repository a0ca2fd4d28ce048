-- Worlds that come to be from one another.
use Rattle.std.proofs.Common.{List, [], ◌∷◌, ◌++◌, refl, sym, ap, subst, ◌∙◌}
use Rattle.node_core.specs.Steps.{Judge}
use Rattle.world_core.specs.World.{World, Deed, Happens, after, after_all, step}
use Rattle.world_core.specs.declared.event.Event.{Event}
use Rattle.world_core.specs.Laws.{MayHappen, IsRun, IsHonestRun, Leads}
use Rattle.world_core.proofs.Runs.{after_all-append, IsRun-join}

nothing : Unit {0}
nothing = tt

pub leads-refl : (judge : Judge) (w : World) → Leads judge w w
leads-refl judge w = record { deeds = []; run = nothing; honest = nothing; ends = refl }

honest-then : (judge : Judge) (w : World) (ds es : List Deed) → IsHonestRun judge w ds → IsHonestRun judge (after_all judge w ds) es → IsHonestRun judge w (ds ++ es)
honest-then judge w [] es r q = q
honest-then judge w (d ∷ ds) es r q = (r.0, honest-then judge (after judge w d) ds es r.1 q)

pub leads-then : (judge : Judge) (a b c : World) → Leads judge a b → Leads judge b c → Leads judge a c
leads-then judge a b c f g = record {
  deeds = f.deeds ++ g.deeds;
  run = IsRun-join judge a f.deeds g.deeds f.run (subst (λ w. IsRun judge w g.deeds) (sym f.ends) g.run);
  honest = honest-then judge a f.deeds g.deeds f.honest (subst (λ w. IsHonestRun judge w g.deeds) (sym f.ends) g.honest);
  ends = after_all-append judge a f.deeds g.deeds ∙ ap (λ w. after_all judge w g.deeds) f.ends ∙ g.ends;
}

-- one event
pub leads-event : (judge : Judge) (w : World) (event : Event) → MayHappen w event → Leads judge w (step judge w event).world
leads-event judge w event m = record { deeds = Happens event ∷ []; run = (m, nothing); honest = (nothing, nothing); ends = refl }
