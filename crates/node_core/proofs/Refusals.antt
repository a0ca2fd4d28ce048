-- An update that is not taken leaves the node as it was; and no answer of a step is want of memory.
use Rattle.std.proofs.Common.{◌≡◌, ◌≢◌, ℕ, Bool, true, false, not, ◌&&◌, List, Option, Some, None, refl, subst, ◌==◌, if◌then◌else◌}
use Rattle.std.specs.Prelude.{Result, Ok, Err}
use Rattle.repl_data.specs.declared.csn.Csn.{Csn}
use Rattle.repl_data.specs.declared.csn.Uid.{Uid}
use Rattle.repl_data.specs.declared.change.Malformed.{Malformed}
use Rattle.repl_data.specs.declared.change.Update.{Update}
use Rattle.repl_data.specs.Order.{csn_lt, csn_eq, bytes_eq}
use Rattle.repl_data.specs.Closed.{needed, is_known}
use Rattle.vector_core.specs.Greatest.{greatest}
use Rattle.vector_core.specs.declared.answers.Applied.{Applied}
use Rattle.vector_core.specs.declared.answers.Applied.TheVariants.{Taken, Duplicate}
use Rattle.vector_core.specs.declared.answers.ApplyFault.{ApplyFault}
use Rattle.vector_core.specs.declared.answers.ApplyFault.TheVariants as apply
use Rattle.vector_core.specs.declared.answers.AcquireFault.{AcquireFault}
use Rattle.vector_core.specs.declared.answers.AcquireFault.TheVariants as acquire
use Rattle.node_core.specs.Node.{Node, front}
use Rattle.node_core.specs.Steps.{form_fault, is_too_late, is_held_by, taken_answer, formed_answer, apply_answer, acquire_past, acquire_from, acquire_fault}
use Rattle.node_core.specs.Calls.{Applies}

pub refused : (n : Node) (from : ℕ) (u : Update) (now : ℕ) (fault : ApplyFault) → apply_answer n from u now false ≡ Err fault → fault ≢ apply.KeeperFault → Applies n from u now (Err fault) n
refused n from u now apply.NoMemory e k = refl
refused n from u now apply.NotHolder e k = (e, refl)
refused n from u now (apply.Malformed why) e k = (e, refl)
refused n from u now (apply.OwnUnknown csn) e k = (e, refl)
refused n from u now (apply.Skew csn late) e k = (e, refl)
refused n from u now (apply.Gap have prev) e k = (e, refl)
refused n from u now (apply.Missing id) e k = (e, refl)
refused n from u now apply.KeeperFault e k = absurd (k refl)

-- ---- want of memory

-- a fact of both answers is one of the answer
if_both : {X : Type 0} (P : X → Type 0) (b : Bool) (x y : X) → P x → P y → P (if b then x else y)
if_both P true x y p q = p
if_both P false x y p q = q

-- a fact of each answer that can come
by_answer : (P : Result Applied ApplyFault → Type 0) (n : Node) (u : Update) (now : ℕ) (fails : Bool) → ((csn : Csn) → P (Err (apply.OwnUnknown csn))) → P (Ok Duplicate) → ((csn : Csn) (late : ℕ) → P (Err (apply.Skew csn late))) → ((have prev : Csn) → P (Err (apply.Gap have prev))) → ((id : Uid) → P (Err (apply.Missing id))) → P (Err apply.KeeperFault) → P (Ok Taken) → P (taken_answer n u now fails)
by_answer P n u now fails own duplicate skew gap missing keeper taken =
    let c = u.change in
    let have = front n u.change.csn.rid in
    let id = needed u.change.target u.change.body in
    if_both P ((c.csn.rid == n.rid) && csn_lt have c.csn) _ _ (own c.csn)
    (if_both P (not (csn_lt have c.csn)) _ _ duplicate
    (if_both P (is_too_late now c.csn.time) _ _ (skew c.csn now)
    (if_both P (not (csn_eq u.prev have)) _ _ (gap have u.prev)
    (if_both P (not (is_known n.taken id)) _ _ (missing id) (if_both P fails _ _ keeper taken)))))

abbrev IsInMemory : Result Applied ApplyFault → Type 0
IsInMemory (Ok applied) = Unit {0}
IsInMemory (Err apply.NoMemory) = ⊥
IsInMemory (Err fault) = Unit {0}

formed_in_memory : (n : Node) (u : Update) (now : ℕ) (fails : Bool) (why : Option Malformed) → IsInMemory (formed_answer n u now fails why)
formed_in_memory n u now fails (Some why) = tt
formed_in_memory n u now fails None = by_answer IsInMemory n u now fails (λ csn. tt) tt (λ csn late. tt) (λ have prev. tt) (λ id. tt) tt tt

answer_in_memory : (n : Node) (from : ℕ) (u : Update) (now : ℕ) (fails : Bool) → IsInMemory (apply_answer n from u now fails)
answer_in_memory n from u now fails = if_both IsInMemory (is_held_by n.holder from) (formed_answer n u now fails (form_fault u)) (Err apply.NotHolder) (formed_in_memory n u now fails (form_fault u)) tt

pub applies_in_memory : (n : Node) (from : ℕ) (u : Update) (now : ℕ) (fails : Bool) → apply_answer n from u now fails ≢ Err apply.NoMemory
applies_in_memory n from u now fails e = subst (λ answer. IsInMemory answer) e (answer_in_memory n from u now fails)

abbrev IsReason : Option AcquireFault → Type 0
IsReason None = Unit {0}
IsReason (Some acquire.NoMemory) = ⊥
IsReason (Some fault) = Unit {0}

past_is : (vector : List Csn) (now : ℕ) → IsReason (acquire_past vector now)
past_is vector now = if_both IsReason (is_too_late now (greatest vector).time) (Some (acquire.Skew (greatest vector) now)) None tt tt

from_is : (holder : Option ℕ) (from : ℕ) (vector : List Csn) (now : ℕ) → IsReason (acquire_from holder from vector now)
from_is None from vector now = past_is vector now
from_is (Some rid) from vector now = if_both IsReason (rid == from) (acquire_past vector now) (Some (acquire.Busy rid)) (past_is vector now) tt

reason_is : (n : Node) (suffix : List ℕ) (from : ℕ) (vector : List Csn) (now : ℕ) → IsReason (acquire_fault n suffix from vector now)
reason_is n suffix from vector now =
    if_both IsReason (not (bytes_eq n.suffix.name suffix)) (Some acquire.WrongSuffix) _ tt
    (if_both IsReason (from == n.rid) (Some acquire.SameId) (acquire_from n.holder from vector now) tt (from_is n.holder from vector now))

pub acquires_in_memory : (n : Node) (suffix : List ℕ) (from : ℕ) (vector : List Csn) (now : ℕ) → acquire_fault n suffix from vector now ≢ Some acquire.NoMemory
acquires_in_memory n suffix from vector now e = subst (λ reason. IsReason reason) e (reason_is n suffix from vector now)
