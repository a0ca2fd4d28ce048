-- At each line of a script the world converges.
use Rattle.std.proofs.Common.{ℕ, ◌≤◌, List, Option, Some, None, subst, arith}
use Rattle.node_core.specs.Steps.{judge_view}
use Rattle.world_core.specs.Laws.{IsHonest, OwnEntriesExact, AllAgree, ShowTheSame, IsSoundJudge}
use Rattle.world_core.proofs.Runs.{own_entries_hold, prefixes_hold, agreement_holds}
use Rattle.world_core.proofs.Views.{views_hold}
use Rattle.dir_top.specs.declared.state.State.{State}
use Rattle.dir_top.specs.State.{script_suffix}
use Rattle.dir_top.specs.Output.{lines_of}
use Rattle.dir_top.specs.Converges.{Converges, ConvergesIn, ConvergesThroughout}
use Rattle.dir_top.proofs.Alike.{answers_alike}
use Rattle.dir_top.proofs.Reached.{IsReached, Reached, all_reached}

module _ (sound : IsSoundJudge judge_view) where
  state_converges : (s : State) → IsReached s → Converges s.world
  state_converges s r =
      let n : r.nodes ≤ 8 = r.few in
      let f = r.from_new in
      record {
        own_entries = subst (λ w. OwnEntriesExact w) f.ends (own_entries_hold judge_view script_suffix r.nodes (omega arith) f.deeds f.run);
        prefixes = (subst (λ w. IsHonest w) f.ends (prefixes_hold judge_view script_suffix r.nodes (omega arith) f.deeds f.run f.honest)).prefix;
        sets = subst (λ w. AllAgree w) f.ends (agreement_holds judge_view script_suffix r.nodes (omega arith) f.deeds f.run f.honest);
        views = subst (λ w. ShowTheSame w) f.ends (views_hold judge_view sound script_suffix r.nodes (omega arith) f.deeds f.run f.honest);
      }

  converges : (s : Option State) → Reached s → ConvergesIn s
  converges None r = tt
  converges (Some s) r = let k = state_converges s r in (k, answers_alike s k.views)

  pub script_converges : (script : List ℕ) → ConvergesThroughout script
  script_converges script = all_reached ConvergesIn converges None 1 (lines_of script) tt
