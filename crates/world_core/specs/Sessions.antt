-- What a session offers is not refused for what the consumer lacks.
use Rattle.std.specs.Prelude.{◌≡◌, ◌≢◌, ℕ, ◌+◌, ◌<◌, ◌≤◌, Bool, true, false, List, ◌++◌, Some, Result, Ok, Err}
use Rattle.repl_data.specs.declared.csn.Csn.{Csn}
use Rattle.repl_data.specs.declared.change.Suffix.{Suffix}
use Rattle.repl_data.specs.declared.change.Update.{Update}
use Rattle.repl_data.specs.Order.{number_of}
use Rattle.vector_core.specs.Vector.{entry_of}
use Rattle.vector_core.specs.declared.answers.Applied.{Applied}
use Rattle.vector_core.specs.declared.answers.ApplyFault.{ApplyFault}
use Rattle.vector_core.specs.declared.answers.ApplyFault.TheVariants as apply
use Rattle.node_core.specs.Node.{Node, front, raised, vector_of}
use Rattle.node_core.specs.Steps.{Judge, day, is_held_by, offer, apply_answer}
use Rattle.node_core.specs.Sound.{IsSoundNode, GoesOn}
use Rattle.world_core.specs.World.{World, Deed, new_world, node_in, after_all}
use Rattle.world_core.specs.Laws.{IsNode, IsRun, IsHonestRun, IsSoundJudge, Leads}

-- The consumer has followed a cursor: each entry of it is at or below the consumer's own.
abbrev pub IsFollowed : Node → List Csn → Type 0
IsFollowed consumer cursor = (o : ℕ) → number_of (entry_of cursor o) ≤ number_of (front consumer o)

-- an answer that does not say that the consumer lacks something (no step of a node answers want of memory)
abbrev pub IsWelcome : Result Applied ApplyFault → Type 0
IsWelcome (Ok applied) = Unit {0}
IsWelcome (Err apply.NoMemory) = ⊥
IsWelcome (Err apply.NotHolder) = Unit {0}
IsWelcome (Err (apply.Malformed why)) = ⊥
IsWelcome (Err (apply.OwnUnknown csn)) = ⊥
IsWelcome (Err (apply.Skew csn now)) = Unit {0}
IsWelcome (Err (apply.Gap have prev)) = ⊥
IsWelcome (Err (apply.Missing id)) = ⊥
IsWelcome (Err apply.KeeperFault) = Unit {0}

abbrev pub IsOk : Result Applied ApplyFault → Type 0
IsOk (Ok applied) = Unit {0}
IsOk (Err fault) = ⊥

-- What a node offers for a cursor that the consumer has followed is welcome there, whoever delivers it, now and in each world that
-- this one leads to by honest deeds.
abbrev pub OffersWelcome : Judge → World → Type 0
OffersWelcome judge w =
    (v : World) → Leads judge w v → (a b : ℕ) → IsNode w.nodes a → IsNode w.nodes b → a ≢ b →
    (cursor : List Csn) → IsFollowed (node_in w b) cursor →
    (u : Update) → offer (node_in w a) cursor ≡ Some u →
    (from now : ℕ) → (fails : Bool) → IsWelcome (apply_answer (node_in v b) from u now fails)

-- It is Ok there where its deliverer holds the consumer, its time is at most a day ahead and the keeper does not fail.
abbrev pub OffersTaken : Judge → World → Type 0
OffersTaken judge w =
    (v : World) → Leads judge w v → (a b : ℕ) → IsNode w.nodes a → IsNode w.nodes b → a ≢ b →
    (cursor : List Csn) → IsFollowed (node_in w b) cursor →
    (u : Update) → offer (node_in w a) cursor ≡ Some u →
    (from now : ℕ) → is_held_by (node_in v b).holder from ≡ true → u.change.csn.time ≤ now + day →
    IsOk (apply_answer (node_in v b) from u now false)

-- In honest runs what a node offers for a cursor that the consumer has followed is welcome there, whoever delivers it, and also
-- where it is delivered later.
abbrev pub law_of_sessions : Type 0
law_of_sessions =
    (judge : Judge) → IsSoundJudge judge → (suffix : Suffix) → (n : ℕ) → n < 65535 → (before rest : List Deed) →
    IsRun judge (new_world suffix n) (before ++ rest) → IsHonestRun judge (new_world suffix n) (before ++ rest) →
    let w = after_all judge (new_world suffix n) before in
    let v = after_all judge (new_world suffix n) (before ++ rest) in
    (a b : ℕ) → IsNode w.nodes a → IsNode w.nodes b → a ≢ b →
    (cursor : List Csn) → IsFollowed (node_in w b) cursor →
    (u : Update) → offer (node_in w a) cursor ≡ Some u →
    (from now : ℕ) → (fails : Bool) → IsWelcome (apply_answer (node_in v b) from u now fails)

-- It is Ok there where its deliverer holds the consumer, its time is at most a day ahead and the keeper does not fail.
abbrev pub law_of_progress : Type 0
law_of_progress =
    (judge : Judge) → IsSoundJudge judge → (suffix : Suffix) → (n : ℕ) → n < 65535 → (before rest : List Deed) →
    IsRun judge (new_world suffix n) (before ++ rest) → IsHonestRun judge (new_world suffix n) (before ++ rest) →
    let w = after_all judge (new_world suffix n) before in
    let v = after_all judge (new_world suffix n) (before ++ rest) in
    (a b : ℕ) → IsNode w.nodes a → IsNode w.nodes b → a ≢ b →
    (cursor : List Csn) → IsFollowed (node_in w b) cursor →
    (u : Update) → offer (node_in w a) cursor ≡ Some u →
    (from now : ℕ) → is_held_by (node_in v b).holder from ≡ true → u.change.csn.time ≤ now + day →
    IsOk (apply_answer (node_in v b) from u now false)

-- A session begins followed, at the consumer's vector. An Ok leaves the CSN at or below the consumer's entry, and a cursor that
-- is raised by it stays followed; so does each cursor, through each step by which the consumer goes on.
abbrev pub law_of_cursors : Type 0
law_of_cursors =
    ((n : Node) → IsFollowed n (vector_of n))
    × ((n : Node) → (cursor : List Csn) → (u : Update) → IsFollowed n cursor → number_of u.change.csn ≤ number_of (front n u.change.csn.rid) → IsFollowed n (raised u.change.csn cursor))
    × ((old new : Node) → (cursor : List Csn) → IsSoundNode new → GoesOn old new → IsFollowed old cursor → IsFollowed new cursor)
