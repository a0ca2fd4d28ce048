-- The steps of a node: what each call answers, and the node after it.
use Rattle.std.specs.Prelude.{ℕ, ◌+◌, Bool, false, not, ◌&&◌, ◌||◌, nat_lt, nat_le, ◌==◌, if◌then◌else◌, List, [], ◌∷◌, ◌++◌, map, filter, length, Option, Some, None, option_map, Result, Ok, Err}
use Rattle.repl_data.specs.declared.csn.Csn.{Csn}
use Rattle.repl_data.specs.declared.csn.Uid.{Uid}
use Rattle.repl_data.specs.declared.change.Change.{Change}
use Rattle.repl_data.specs.declared.change.Suffix.{Suffix}
use Rattle.repl_data.specs.declared.change.Update.{Update}
use Rattle.repl_data.specs.declared.change.Malformed.{Malformed}
use Rattle.repl_data.specs.declared.change.Malformed.TheVariants.{Prev}
use Rattle.repl_data.specs.Order.{csn_lt, csn_eq, zero_csn, bytes_eq}
use Rattle.repl_data.specs.Check.{fault_of}
use Rattle.repl_data.specs.Closed.{needed, is_known}
use Rattle.repl_data.specs.View.{view_of}
use Rattle.ldap_types.specs.declared.request.Request.{Request}
use Rattle.ldap_types.specs.declared.reply.Identity.{Identity}
use Rattle.ldap_types.specs.declared.reply.LdapResult.{LdapResult}
use Rattle.ldap_rules.specs.Verdict.{Verdict, Refuses, Writes, Answers, verdict_of}
use Rattle.ldap_rules.specs.Laws.{target_at, change_at}
use Rattle.vector_core.specs.Greatest.{greatest}
use Rattle.vector_core.specs.Vector.{entry_of}
use Rattle.vector_core.specs.declared.answers.Applied.{Applied}
use Rattle.vector_core.specs.declared.answers.Applied.TheVariants.{Taken, Duplicate}
use Rattle.vector_core.specs.declared.answers.ApplyFault.{ApplyFault}
use Rattle.vector_core.specs.declared.answers.ApplyFault.TheVariants as apply
use Rattle.vector_core.specs.declared.answers.AcquireFault.{AcquireFault}
use Rattle.vector_core.specs.declared.answers.AcquireFault.TheVariants as acquire
use Rattle.pending_core.specs.declared.generator.Generator.{Generator}
use Rattle.pending_core.specs.Draw.{draw, generator_at, raised_to}
use Rattle.pending_core.specs.Pending.{places, without}
use Rattle.node_core.specs.Node.{Node, front, is_covered, update_of}

abbrev pub csn_at : ℕ → ℕ × ℕ → Csn
csn_at rid pair = record { time = pair.0; seq = pair.1; rid = rid; sub = 0 }

abbrev pub moment_of : Csn → Generator
moment_of c = generator_at (c.time, c.seq)

-- ---- limits

-- how far a time of another node may be ahead: a day, in seconds
abbrev pub day : ℕ
day = 86400

-- ---- begin: draw a CSN, and make it pending

-- why a node draws no CSN
pub data NoTicket : Type 0 where
  Full : NoTicket
  Exhausted : (last : ℕ × ℕ) → NoTicket

abbrev pub begun_at : Node → Option (ℕ × ℕ) → Result Csn NoTicket
begun_at n None = Err (Exhausted (n.last.time, n.last.seq))
begun_at n (Some pair) = Ok (csn_at n.rid pair)

abbrev pub begin_answer : Node → ℕ → Result Csn NoTicket
begin_answer n now = if nat_le places (length n.pending) then Err Full else begun_at n (draw n.last now)

abbrev pub after_begin : Node → Result Csn NoTicket → Node
after_begin n (Ok csn) = record n { last = moment_of csn; pending = n.pending ++ csn ∷ [] }
after_begin n (Err fault) = n

-- ---- commit

-- a refusal table, on what is taken
abbrev pub Judge : Type 0
Judge = Suffix → List Change → Request → Identity → Verdict

-- the table of LDAP, on the view of what is taken
abbrev pub judge_view : Judge
judge_view suffix taken request bound = verdict_of (view_of suffix taken) request bound

abbrev pub verdict_at : Judge → Node → Request → Identity → Verdict
verdict_at judge n request bound = judge n.suffix n.taken request bound

pub data CommitAnswer : Type 0 where
  Stale : (node_life : ℕ) → CommitAnswer
  Refused : (result : LdapResult) → CommitAnswer
  CommitExhausted : (last : Generator) → CommitAnswer
  KeeperFailed : (csn : Csn) → CommitAnswer
  Committed : (csn : Csn) → CommitAnswer

-- the ticket's CSN where the id that the change needs is below it, else the next one that the node draws
abbrev pub csn_for : Node → Csn → Uid → ℕ → Option Csn
csn_for n csn id now = if csn_lt id.csn csn then Some csn else option_map (csn_at n.rid) (draw n.last now)

abbrev pub kept_at : Node → Option Csn → Bool → CommitAnswer
kept_at n None fails = CommitExhausted n.last
kept_at n (Some csn) fails = if fails then KeeperFailed csn else Committed csn

abbrev pub judged : Node → Csn → Verdict → ℕ → Bool → CommitAnswer
judged n csn (Refuses result) now fails = Refused result
judged n csn (Answers result) now fails = Refused result
judged n csn (Writes target body) now fails = kept_at n (csn_for n csn (needed (target_at csn target) body) now) fails

-- A commit of the ticket of this life and CSN: the first of these that fits. `fails` says whether the keeper fails if it is asked.
abbrev pub commit_answer : Node → ℕ → Csn → Verdict → ℕ → Bool → CommitAnswer
commit_answer n life csn verdict now fails = if life == n.life then judged n csn verdict now fails else Stale n.life

-- a newly drawn CSN takes the place of the old one
abbrev pub with_csn : Node → Csn → Csn → Node
with_csn n old new =
    if csn_eq old new then n else record n { last = moment_of new; pending = without n.pending old ++ new ∷ [] }

abbrev pub takes : Node → Change → Node
takes n c = record n { taken = n.taken ++ c ∷ [] }

abbrev pub written : Node → Verdict → Csn → Node
written n (Writes target body) csn = takes n (change_at csn target body)
written n (Refuses result) csn = n
written n (Answers result) csn = n

abbrev pub after_commit : Node → Csn → Verdict → CommitAnswer → Node
after_commit n csn verdict (KeeperFailed new) = with_csn n csn new
after_commit n csn verdict (Committed new) = written (with_csn n csn new) verdict new
after_commit n csn verdict (Stale life) = n
after_commit n csn verdict (Refused result) = n
after_commit n csn verdict (CommitExhausted last) = n

-- ---- settle and abort are one step: the CSN is no longer pending

abbrev pub ended : Node → ℕ → Csn → Node
ended n life csn = if life == n.life then record n { pending = without n.pending csn } else n

-- ---- offer: the change of least CSN that the node's vector covers, and the other vector does not

abbrev pub is_offered_to : Node → List Csn → Change → Bool
is_offered_to n beyond c = csn_lt (entry_of beyond c.csn.rid) c.csn && is_covered n c.csn

-- a change put into a list in rising order of CSN
abbrev pub put_in_order : Change → List Change → List Change
put_in_order c [] = c ∷ []
put_in_order c (d ∷ ds) = if csn_lt d.csn c.csn then d ∷ put_in_order c ds else c ∷ (d ∷ ds)

abbrev pub in_order : List Change → List Change
in_order [] = []
in_order (c ∷ cs) = put_in_order c (in_order cs)

-- the updates that a node has for a vector, in rising order of CSN
abbrev pub offers : Node → List Csn → List Update
offers n beyond = map (update_of n) (in_order (filter (is_offered_to n beyond) n.taken))

abbrev pub first_of : {X : Type 0} → List X → Option X
first_of [] = None
first_of (x ∷ xs) = Some x

-- the first of them, or none where the offer is done
abbrev pub offer : Node → List Csn → Option Update
offer n beyond = first_of (offers n beyond)

-- ---- apply

abbrev pub is_held_by : Option ℕ → ℕ → Bool
is_held_by None from = false
is_held_by (Some rid) from = rid == from

-- zero, or a CSN of the same originator with subsequence 0 below it
abbrev pub is_prev : Csn → Csn → Bool
is_prev prev csn = csn_eq prev zero_csn || ((prev.rid == csn.rid) && ((prev.sub == 0) && csn_lt prev csn))

-- the fault of an update's change, or else that of its prev
abbrev pub or_prev : Update → Option Malformed → Option Malformed
or_prev u (Some why) = Some why
or_prev u None = if is_prev u.prev u.change.csn then None else Some Prev

-- why an update may not be taken at all
abbrev pub form_fault : Update → Option Malformed
form_fault u = or_prev u (fault_of u.change)

-- a time, in seconds, that is more than a day ahead
abbrev pub is_too_late : ℕ → ℕ → Bool
is_too_late now time = nat_lt (now + day) time

-- what is answered to an update that is well formed, from the holder
abbrev pub taken_answer : Node → Update → ℕ → Bool → Result Applied ApplyFault
taken_answer n u now fails =
    let c = u.change in
    let have = front n c.csn.rid in
    let id = needed c.target c.body in
    if (c.csn.rid == n.rid) && csn_lt have c.csn then Err (apply.OwnUnknown c.csn)
    else if not (csn_lt have c.csn) then Ok Duplicate
    else if is_too_late now c.csn.time then Err (apply.Skew c.csn now)
    else if not (csn_eq u.prev have) then Err (apply.Gap have u.prev)
    else if not (is_known n.taken id) then Err (apply.Missing id)
    else if fails then Err apply.KeeperFault
    else Ok Taken

-- the same of any update from the holder, by the fault of its form
abbrev pub formed_answer : Node → Update → ℕ → Bool → Option Malformed → Result Applied ApplyFault
formed_answer n u now fails (Some why) = Err (apply.Malformed why)
formed_answer n u now fails None = taken_answer n u now fails

-- the first case that fits
abbrev pub apply_answer : Node → ℕ → Update → ℕ → Bool → Result Applied ApplyFault
apply_answer n from u now fails = if is_held_by n.holder from then formed_answer n u now fails (form_fault u) else Err apply.NotHolder

abbrev pub after_apply : Node → Change → Result Applied ApplyFault → Node
after_apply n c (Ok Taken) = record n { taken = n.taken ++ c ∷ []; last = raised_to n.last c.csn }
after_apply n c (Ok Duplicate) = n
after_apply n c (Err fault) = n

-- ---- acquire and release

-- why a supplier with this vector may not begin; none where nothing is against it
abbrev pub acquire_past : List Csn → ℕ → Option AcquireFault
acquire_past vector now =
    let most = greatest vector in
    if is_too_late now most.time then Some (acquire.Skew most now) else None

abbrev pub acquire_from : Option ℕ → ℕ → List Csn → ℕ → Option AcquireFault
acquire_from None from vector now = acquire_past vector now
acquire_from (Some rid) from vector now = if rid == from then acquire_past vector now else Some (acquire.Busy rid)

-- why a supplier with this suffix, replica id and vector may not begin: the first case that fits
abbrev pub acquire_fault : Node → List ℕ → ℕ → List Csn → ℕ → Option AcquireFault
acquire_fault n suffix from vector now =
    if not (bytes_eq n.suffix.name suffix) then Some acquire.WrongSuffix
    else if from == n.rid then Some acquire.SameId
    else acquire_from n.holder from vector now

abbrev pub after_acquire : Node → ℕ → Option AcquireFault → Node
after_acquire n from None = record n { holder = Some from }
after_acquire n from (Some fault) = n

abbrev pub released : Node → ℕ → Node
released n from = if is_held_by n.holder from then record n { holder = None } else n
