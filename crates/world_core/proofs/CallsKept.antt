-- A call at one node, at whatever time, leaves a world as its type keeps it.
use Rattle.std.proofs.Common.{◌≡◌, ◌≢◌, ℕ, ◌⊎◌, inl, inr, false, ne_eqb, List, sym, ap, subst, ◌∙◌}
use Rattle.std.specs.Prelude.{Result, Ok, Err, MatchResult}
use Rattle.std.proofs.lemmas.Bool.{cases_eq}
use Rattle.vector_core.proofs.Lists.{if_false}
use Rattle.repl_data.specs.declared.csn.Csn.{Csn}
use Rattle.repl_data.specs.declared.change.Update.{Update}
use Rattle.ldap_types.specs.declared.request.Request.{Request}
use Rattle.ldap_types.specs.declared.reply.Identity.{Identity}
use Rattle.ldap_rules.specs.Verdict.{Verdict}
use Rattle.vector_core.specs.declared.answers.Start.{Start}
use Rattle.vector_core.specs.declared.answers.Applied.{Applied}
use Rattle.vector_core.specs.declared.answers.ApplyFault.{ApplyFault}
use Rattle.vector_core.specs.declared.answers.ApplyFault.TheVariants as apply
use Rattle.vector_core.specs.declared.answers.AcquireFault.{AcquireFault}
use Rattle.vector_core.specs.declared.answers.AcquireFault.TheVariants as acquire
use Rattle.node_core.specs.declared.fault.BeginFault.{BeginFault}
use Rattle.node_core.specs.declared.fault.BeginFault.TheVariants as begin
use Rattle.node_core.specs.declared.fault.CommitFault.{CommitFault}
use Rattle.node_core.specs.declared.fault.CommitFault.TheVariants as commit
use Rattle.node_core.specs.declared.ticket.Ticket.{Ticket as NodeTicket}
use Rattle.node_core.specs.declared.ticket.Receipt.{Receipt}
use Rattle.node_core.specs.Node.{Node}
use Rattle.node_core.specs.Sound.{IsSoundNode, IsOpen}
use Rattle.node_core.specs.Steps.{judge_view, verdict_at, after_begin, Stale, Committed, commit_answer, after_commit, ended, after_apply, after_acquire, released}
use Rattle.node_core.specs.Calls.{Begins, Commits, CommitsUnder, Acquires, Applies, IsPending, IsPendingTaken}
use Rattle.node_core.proofs.OpenTickets.{ended-stale}
use Rattle.node_core.proofs.Verdicts.{open-from}
use Rattle.world_core.specs.declared.event.Event.TheVariants.{Clock}
use Rattle.world_core.specs.World.{World, Happens, Call, CallBegin, CallCommit, CallEnd, CallAcquire, CallRelease, CallApply, called, node_of, with_node, node_in, put}
use Rattle.world_core.specs.Laws.{IsNode, IsNoTicket, MayCall, IsFitting}
use Rattle.world_core.specs.Taken.{IsKept}
use Rattle.world_core.proofs.Honest.{node_of-here}
use Rattle.world_core.proofs.Outcomes.{same_node}
use Rattle.world_core.proofs.Failures.{fault-says}
use Rattle.world_core.proofs.Runs.{came-on}
use Rattle.world_core.proofs.TakenLaws.{called-kept}

-- the world, where its clock shows this time
abbrev pub at_time : World → ℕ → World
at_time w now = record w { clock = now }

-- nothing that is kept looks at the clock
time-kept : (w : World) (now : ℕ) → IsKept w → IsKept (at_time w now)
time-kept w now k = record {
  came = came-on judge_view w (Happens (Clock now)) k.came tt;
  lawful = record { sound = k.lawful.sound; tickets = k.lawful.tickets; offered = k.lawful.offered };
  taken = k.taken;
}

-- the node is as a call leaves it, or as it was
abbrev pub Leaves : World → ℕ → ℕ → Call → World → Type 0
Leaves w n now call v = (v ≡ record (called judge_view (at_time w now) n call) { clock = w.clock }) ⊎ (v ≡ w)

pub leaves-kept : (w : World) (n now : ℕ) (call : Call) (v : World) → IsKept w → IsNode w.nodes n → MayCall (at_time w now) n call → Leaves w n now call v → IsKept v
leaves-kept w n now call v k i m (inl e) =
    subst (λ x. IsKept x) (sym e) (time-kept (called judge_view (at_time w now) n call) w.clock (called-kept (at_time w now) n call (time-kept w now k) (i, m)))
leaves-kept w n now call v k i m (inr e) = subst (λ x. IsKept x) (sym e) k

-- the node that is put
put-as : (w v : World) (n : ℕ) (left m : Node) → v ≡ put w n left → left ≡ m → v ≡ put w n m
put-as w v n left m p e = p ∙ ap (λ x. put w n x) e

put-same : (w v : World) (n : ℕ) (left : Node) → v ≡ put w n left → left ≡ node_in w n → v ≡ w
put-same w v n left p e = put-as w v n left (node_in w n) p e ∙ ap (λ ns. record w { nodes = ns }) (same_node w.nodes n)

-- ---- begin

begin-leaves_world : (w v : World) (n now : ℕ) (result : Result NodeTicket BeginFault) (left : Node) → Begins (node_in w n) now result left → v ≡ put w n left → Leaves w n now CallBegin v
begin-leaves_world w v n now (Ok ticket) left s p = inl (put-as w v n left _ p (s.2 ∙ ap (λ a. after_begin (node_in w n) a) (sym s.0)))
begin-leaves_world w v n now (Err begin.NoMemory) left s p = inr (put-same w v n left p s)
begin-leaves_world w v n now (Err begin.Full) left s p = inr (put-same w v n left p s.1)
begin-leaves_world w v n now (Err (begin.Exhausted last)) left s p = inr (put-same w v n left p s.1)

pub begin-kept : (w v : World) (n now : ℕ) (result : Result NodeTicket BeginFault) (left : Node) → IsKept w → IsNode w.nodes n → Begins (node_in w n) now result left → v ≡ put w n left → IsKept v
begin-kept w v n now result left k i s p = leaves-kept w n now CallBegin v k i tt (begin-leaves_world w v n now result left s p)

-- ---- commit

-- a ticket that may be used at a node, if it is one of the node's present life
pub record IsUsable (w : World) (n life : ℕ) (csn : Csn) : Type 0 where
  pub is_pending : life ≡ (node_in w n).life → IsPending (node_in w n) csn
  pub uncommitted : life ≡ (node_in w n).life → IsPendingTaken (node_in w n) csn → ⊥
  pub free : life ≡ (node_in w n).life → IsNoTicket w n life csn

pub sound-at : (w : World) (n : ℕ) → IsKept w → IsNode w.nodes n → IsSoundNode (node_in w n)
sound-at w n k i = k.lawful.sound.sound n i

pub usable-open : (w : World) (n life : ℕ) (csn : Csn) → IsKept w → IsNode w.nodes n → IsUsable w n life csn → life ≡ (node_in w n).life → IsOpen (node_in w n) csn
usable-open w n life csn k i u e = open-from (node_in w n) csn (sound-at w n k i) (u.is_pending e) (u.uncommitted e)

commit-leaves_world : (w v : World) (n : ℕ) (ticket : NodeTicket) (request : Request) (bound : Identity) (now : ℕ) (result : Result Receipt (NodeTicket × CommitFault)) (left : Node) → MatchResult result (λ _. Unit {0}) (λ (e : NodeTicket × CommitFault). e.1 ≢ commit.KeeperFault) → Commits judge_view (node_in w n) ticket request bound now result left → v ≡ put w n left → Leaves w n now (CallCommit ticket.life ticket.csn request bound) v
commit-leaves_world w v n ticket request bound now (Ok receipt) left calm s p =
    inl (put-as w v n left _ p (s.0.1 ∙ ap (λ a. after_commit (node_in w n) ticket.csn (verdict_at judge_view (node_in w n) request bound) a) (sym s.0.0)))
commit-leaves_world w v n ticket request bound now (Err (back, fault)) left calm s p =
    inr (put-same w v n left p (fault-says (node_in w n) ticket back (verdict_at judge_view (node_in w n) request bound) now fault left s calm).same_node)

-- only a ticket of the node's present life is committed
pub committed-live : (met : Node) (ticket : NodeTicket) (verdict : Verdict) (now : ℕ) (receipt : Receipt) → commit_answer met ticket.life ticket.csn verdict now false ≡ Committed receipt.csn → ticket.life ≡ met.life
committed-live met ticket verdict now receipt e =
    elim (cases_eq ticket.life met.life) [
      | inl q ↦ q
      | inr d ↦ absurd (stale_not (sym (if_false _ _ (ne_eqb ticket.life met.life d)) ∙ e))
    ]
  where
    stale_not : Stale met.life ≡ Committed receipt.csn → ⊥
    stale_not q = cc

-- a commit at a node that was started again since changes nothing
stale-same : (w : World) (n : ℕ) (ticket : NodeTicket) (verdict : Verdict) (now : ℕ) (result : Result Receipt (NodeTicket × CommitFault)) (left : Node) → MatchResult result (λ _. Unit {0}) (λ (e : NodeTicket × CommitFault). e.1 ≢ commit.KeeperFault) → ticket.life ≢ (node_in w n).life → CommitsUnder (node_in w n) ticket verdict now result left → left ≡ node_in w n
stale-same w n ticket verdict now (Ok receipt) left calm d s = absurd (d (committed-live (node_in w n) ticket verdict now receipt s.0.0))
stale-same w n ticket verdict now (Err (back, fault)) left calm d s = (fault-says (node_in w n) ticket back verdict now fault left s calm).same_node

pub commit-kept : (w v : World) (n : ℕ) (ticket : NodeTicket) (request : Request) (bound : Identity) (now : ℕ) (result : Result Receipt (NodeTicket × CommitFault)) (left : Node) → IsKept w → IsNode w.nodes n → IsUsable w n ticket.life ticket.csn → MatchResult result (λ _. Unit {0}) (λ (e : NodeTicket × CommitFault). e.1 ≢ commit.KeeperFault) → Commits judge_view (node_in w n) ticket request bound now result left → v ≡ put w n left → IsKept v
commit-kept w v n ticket request bound now result left k i u calm s p =
    elim (cases_eq ticket.life (node_in w n).life) [
      | inl e ↦
          leaves-kept w n now (CallCommit ticket.life ticket.csn request bound) v k i (usable-open w n ticket.life ticket.csn k i u, u.free e)
          (commit-leaves_world w v n ticket request bound now result left calm s p)
      | inr d ↦ subst (λ x. IsKept x) (sym (put-same w v n left p (stale-same w n ticket (verdict_at judge_view (node_in w n) request bound) now result left calm d s))) k
    ]

-- ---- abort and settle

pub end-kept_at : (w v : World) (n life : ℕ) (csn : Csn) (left : Node) → IsKept w → IsNode w.nodes n → (life ≡ (node_in w n).life → IsNoTicket w n life csn) → left ≡ ended (node_in w n) life csn → v ≡ put w n left → IsKept v
end-kept_at w v n life csn left k i free s p =
    elim (cases_eq life (node_in w n).life) [
      | inl e ↦ leaves-kept w n w.clock (CallEnd life csn) v k i (free e) (inl (put-as w v n left _ p s))
      | inr d ↦ subst (λ x. IsKept x) (sym (put-same w v n left p (s ∙ ended-stale (node_in w n) life csn d))) k
    ]

-- ---- acquire and release

acquire-leaves_world : (w v : World) (n : ℕ) (start : Start) (now : ℕ) (result : Result Unit AcquireFault) (left : Node) → Acquires (node_in w n) start now result left → v ≡ put w n left → Leaves w n now (CallAcquire start.suffix start.rid start.front) v
acquire-leaves_world w v n start now (Ok done) left s p = inl (put-as w v n left _ p (s.1 ∙ ap (λ a. after_acquire (node_in w n) start.rid a) (sym s.0)))
acquire-leaves_world w v n start now (Err acquire.NoMemory) left s p = inr (put-same w v n left p s)
acquire-leaves_world w v n start now (Err acquire.WrongSuffix) left s p = inr (put-same w v n left p s.1)
acquire-leaves_world w v n start now (Err acquire.SameId) left s p = inr (put-same w v n left p s.1)
acquire-leaves_world w v n start now (Err (acquire.Busy rid)) left s p = inr (put-same w v n left p s.1)
acquire-leaves_world w v n start now (Err (acquire.Skew csn late)) left s p = inr (put-same w v n left p s.1)

pub acquire-kept : (w v : World) (n : ℕ) (start : Start) (now : ℕ) (result : Result Unit AcquireFault) (left : Node) → IsKept w → IsNode w.nodes n → Acquires (node_in w n) start now result left → v ≡ put w n left → IsKept v
acquire-kept w v n start now result left k i s p =
    leaves-kept w n now (CallAcquire start.suffix start.rid start.front) v k i tt (acquire-leaves_world w v n start now result left s p)

pub release-kept : (w v : World) (n from : ℕ) (left : Node) → IsKept w → IsNode w.nodes n → left ≡ released (node_in w n) from → v ≡ put w n left → IsKept v
release-kept w v n from left k i s p = leaves-kept w n w.clock (CallRelease from) v k i tt (inl (put-as w v n left _ p s))

-- ---- apply

apply-leaves_world : (w v : World) (n from : ℕ) (u : Update) (now : ℕ) (result : Result Applied ApplyFault) (left : Node) → Applies (node_in w n) from u now result left → v ≡ put w n left → Leaves w n now (CallApply from u) v
apply-leaves_world w v n from u now (Ok applied) left s p = inl (put-as w v n left _ p (s.1 ∙ ap (λ a. after_apply (node_in w n) u.change a) (sym s.0)))
apply-leaves_world w v n from u now (Err apply.NoMemory) left s p = inr (put-same w v n left p s)
apply-leaves_world w v n from u now (Err apply.NotHolder) left s p = inr (put-same w v n left p s.1)
apply-leaves_world w v n from u now (Err (apply.Malformed why)) left s p = inr (put-same w v n left p s.1)
apply-leaves_world w v n from u now (Err (apply.OwnUnknown csn)) left s p = inr (put-same w v n left p s.1)
apply-leaves_world w v n from u now (Err (apply.Skew csn late)) left s p = inr (put-same w v n left p s.1)
apply-leaves_world w v n from u now (Err (apply.Gap have prev)) left s p = inr (put-same w v n left p s.1)
apply-leaves_world w v n from u now (Err (apply.Missing id)) left s p = inr (put-same w v n left p s.1)
apply-leaves_world w v n from u now (Err apply.KeeperFault) left s p = inr (put-same w v n left p s.1)

pub apply-kept : (w v : World) (n from : ℕ) (u : Update) (now : ℕ) (result : Result Applied ApplyFault) (left : Node) → IsKept w → IsNode w.nodes n → IsFitting u → Applies (node_in w n) from u now result left → v ≡ put w n left → IsKept v
apply-kept w v n from u now result left k i f s p =
    leaves-kept w n now (CallApply from u) v k i f (apply-leaves_world w v n from u now result left s p)

-- ---- a node that was put

pub put-there : (w : World) (new : List Node) (n : ℕ) (left : Node) → IsNode w.nodes n → new ≡ with_node w.nodes n left → node_of new n ≡ left
put-there w new n left i e = ap (λ ns. node_of ns n) e ∙ node_of-here w.nodes n left i
