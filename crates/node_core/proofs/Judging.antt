-- The refusal table of LDAP gives sound verdicts.
use Rattle.std.proofs.Common.{◌≡◌, true, List, Option, None}
use Rattle.std.specs.List.{list_all}
use Rattle.repl_data.specs.declared.csn.Csn.{Csn}
use Rattle.repl_data.specs.declared.csn.Uid.{Uid}
use Rattle.repl_data.specs.declared.change.Body.{Body}
use Rattle.repl_data.specs.declared.change.Change.{Change}
use Rattle.repl_data.specs.declared.change.Suffix.{Suffix}
use Rattle.repl_data.specs.Check.{fault_of}
use Rattle.repl_data.specs.Closed.{is_rooted, is_sound}
use Rattle.repl_data.specs.View.{DirectoryView, view_of}
use Rattle.ldap_types.specs.declared.request.Request.{Request}
use Rattle.ldap_types.specs.declared.reply.Identity.{Identity}
use Rattle.ldap_rules.specs.Verdict.{verdict_of, Writes}
use Rattle.ldap_rules.specs.Laws.{IsDrawnAbove, needed_at, change_at}
use Rattle.node_core.specs.Steps.{judge_view}
use Rattle.node_core.specs.Sound.{IsSoundJudge}

-- what the rules say of what they write
abbrev pub PassesCheck : Type 0
PassesCheck = (suffix : Suffix) (changes : List Change) (r : Request) (bound : Identity) (target : Option Uid) (body : Body) (c : Csn) → list_all is_sound changes ≡ true → verdict_of (view_of suffix changes) r bound ≡ Writes target body → IsDrawnAbove c (needed_at c target body) → fault_of (change_at c target body) ≡ None

abbrev pub IsRooted : Type 0
IsRooted = (suffix : Suffix) (changes : List Change) (r : Request) (bound : Identity) (target : Option Uid) (body : Body) (c : Csn) → verdict_of (view_of suffix changes) r bound ≡ Writes target body → is_rooted changes (change_at c target body) ≡ true

abbrev pub HasOneNeed : Type 0
HasOneNeed = (v : DirectoryView) (r : Request) (bound : Identity) (target : Option Uid) (body : Body) (c d : Csn) → verdict_of v r bound ≡ Writes target body → needed_at c target body ≡ needed_at d target body

pub judge_sound : PassesCheck → IsRooted → HasOneNeed → IsSoundJudge judge_view
judge_sound passes rooted one suffix taken closed request bound target body e = record {
  one_need = λ c d. one (view_of suffix taken) request bound target body c d e;
  known = λ c. rooted suffix taken request bound target body c e;
  passes = λ c plain low high below.
      passes suffix taken request bound target body c closed.sound e
      (record {
        rid = low;
        least = high;
        sub = plain.no_part;
        later = below;
      });
}
