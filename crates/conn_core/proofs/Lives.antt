-- The life of a node through the calls of a write, and that no commit of its own ticket is stale.
use Rattle.std.proofs.Common.{◌≡◌, ℕ, Bool, true, false, ◌==◌, cond, refl, ◌∙◌, ap, arith, Option, Some, None, Result, Ok, Err}
use Rattle.std.proofs.lemmas.Bool.Decides.{nat_tests}
use Rattle.ldap_types.specs.declared.request.Request.{Request}
use Rattle.ldap_types.specs.declared.reply.Identity.{Identity}
use Rattle.ldap_rules.specs.Verdict.{Verdict, Refuses, Writes, Answers}
use Rattle.repl_data.specs.declared.csn.Csn.{Csn}
use Rattle.repl_data.specs.Order.{csn_eq}
use Rattle.node_core.specs.declared.fault.BeginFault.{BeginFault}
use Rattle.node_core.specs.declared.fault.BeginFault.TheVariants as begin
use Rattle.node_core.specs.declared.fault.CommitFault.{CommitFault}
use Rattle.node_core.specs.declared.fault.CommitFault.TheVariants as commit
use Rattle.node_core.specs.declared.ticket.Ticket.{Ticket}
use Rattle.node_core.specs.declared.ticket.Receipt.{Receipt}
use Rattle.node_core.specs.Node.{Node}
use Rattle.node_core.specs.Steps.{Judge, CommitAnswer, Stale, Refused, CommitExhausted, KeeperFailed, Committed, verdict_at, commit_answer, judged, kept_at, after_commit, written, with_csn, ended}
use Rattle.node_core.specs.Calls.{Begins, Commits}
use Rattle.ldap_types.specs.declared.reply.LdapResult.{LdapResult}
use Rattle.ldap_rules.specs.Case.{result_of}
use Rattle.conn_core.specs.Serving.{commit_result}
use Rattle.node_core.specs.Answers.{used_up}

life_of : Node → ℕ
life_of n = n.life

-- ---- the life stays

either : (b : Bool) (m n : Node) (life : ℕ) → m.life ≡ life → n.life ≡ life → (cond b m n).life ≡ life
either true m n life p q = p
either false m n life p q = q

pub ended_life : (n : Node) (life : ℕ) (csn : Csn) → (ended n life csn).life ≡ n.life
ended_life n life csn = either (life == n.life) _ _ n.life refl refl

with_csn_life : (n : Node) (old new : Csn) → (with_csn n old new).life ≡ n.life
with_csn_life n old new = either (csn_eq old new) _ _ n.life refl refl

written_life : (n : Node) (v : Verdict) (csn : Csn) → (written n v csn).life ≡ n.life
written_life n (Writes target body) csn = refl
written_life n (Refuses r) csn = refl
written_life n (Answers r) csn = refl

after_commit_life : (n : Node) (csn : Csn) (v : Verdict) (a : CommitAnswer) → (after_commit n csn v a).life ≡ n.life
after_commit_life n csn v (KeeperFailed new) = with_csn_life n csn new
after_commit_life n csn v (Committed new) = written_life (with_csn n csn new) v new ∙ with_csn_life n csn new
after_commit_life n csn v (Stale life) = refl
after_commit_life n csn v (Refused r) = refl
after_commit_life n csn v (CommitExhausted last) = refl

pub begun_life : (met left : Node) (now : ℕ) (answer : Result Ticket BeginFault) → Begins met now answer left → left.life ≡ met.life
begun_life met left now (Ok t) s = ap (λ (n : Node). n.life) s.2
begun_life met left now (Err begin.NoMemory) s = ap (λ (n : Node). n.life) s
begun_life met left now (Err begin.Full) s = ap (λ (n : Node). n.life) s.1
begun_life met left now (Err (begin.Exhausted last)) s = ap (λ (n : Node). n.life) s.1

pub commits_life : (judge : Judge) (met left : Node) (ticket : Ticket) (request : Request) (bound : Identity) (now : ℕ) (answer : Result Receipt (Ticket × CommitFault)) → Commits judge met ticket request bound now answer left → left.life ≡ met.life
commits_life judge met left ticket request bound now (Ok r) s = ap (λ (n : Node). n.life) s.0.1 ∙ after_commit_life met ticket.csn (verdict_at judge met request bound) (Committed r.csn)
commits_life judge met left ticket request bound now (Err (back, commit.NoMemory)) s = ap (λ (n : Node). n.life) s.1
commits_life judge met left ticket request bound now (Err (back, commit.Stale life node_life)) s = ap (λ (n : Node). n.life) s.0.1 ∙ after_commit_life met ticket.csn (verdict_at judge met request bound) (Stale node_life)
commits_life judge met left ticket request bound now (Err (back, commit.Refused x)) s = ap (λ (n : Node). n.life) s.0.1 ∙ after_commit_life met ticket.csn (verdict_at judge met request bound) (Refused x)
commits_life judge met left ticket request bound now (Err (back, commit.Exhausted last)) s = ap (λ (n : Node). n.life) s.0.1 ∙ after_commit_life met ticket.csn (verdict_at judge met request bound) (CommitExhausted (record { time = last.0; seq = last.1 }))
commits_life judge met left ticket request bound now (Err (back, commit.KeeperFault)) s = ap (λ (n : Node). n.life) s.0.1 ∙ after_commit_life met ticket.csn (verdict_at judge met request bound) (KeeperFailed back.csn)

-- the ticket that is handed back is of the same life
pub back_life : (judge : Judge) (met left : Node) (ticket back : Ticket) (request : Request) (bound : Identity) (now : ℕ) (fault : CommitFault) → Commits judge met ticket request bound now (Err (back, fault)) left → back.life ≡ ticket.life
back_life judge met left ticket back request bound now commit.NoMemory s = ap (λ (t : Ticket). t.life) s.0
back_life judge met left ticket back request bound now (commit.Stale life node_life) s = ap (λ (t : Ticket). t.life) s.1
back_life judge met left ticket back request bound now (commit.Refused x) s = ap (λ (t : Ticket). t.life) s.1
back_life judge met left ticket back request bound now (commit.Exhausted last) s = ap (λ (t : Ticket). t.life) s.1
back_life judge met left ticket back request bound now commit.KeeperFault s = s.1

-- ---- no ticket of the node's own life is stale

kept_fresh : (n : Node) (csn : Option Csn) (fails : Bool) (life : ℕ) → kept_at n csn fails ≡ Stale life → ⊥
kept_fresh n None fails life e = absurd cc
kept_fresh n (Some csn) true life e = absurd cc
kept_fresh n (Some csn) false life e = absurd cc

judged_fresh : (n : Node) (csn : Csn) (v : Verdict) (now : ℕ) (fails : Bool) (life : ℕ) → judged n csn v now fails ≡ Stale life → ⊥
judged_fresh n csn (Refuses x) now fails life e = absurd cc
judged_fresh n csn (Answers x) now fails life e = absurd cc
judged_fresh n csn (Writes target body) now fails life e = kept_fresh n _ fails life e

fresh : (b : Bool) (n : Node) (a : CommitAnswer) (life : ℕ) → b ≡ true → (a ≡ Stale life → ⊥) → cond b a (Stale n.life) ≡ Stale life → ⊥
fresh true n a life t f e = f e
fresh false n a life t f e = absurd cc

own_is_fresh : (n : Node) (life : ℕ) (csn : Csn) (v : Verdict) (now : ℕ) (fails : Bool) (other : ℕ) → life ≡ n.life → commit_answer n life csn v now fails ≡ Stale other → ⊥
own_is_fresh n life csn v now fails other same e =
    fresh (life == n.life) n (judged n csn v now fails) other (grind (arith, nat_tests, same)) (judged_fresh n csn v now fails other) e

-- what is answered where a commit of such a ticket is not Ok
pub fault_told : (judge : Judge) (met left : Node) (ticket back : Ticket) (request : Request) (bound : Identity) (now : ℕ) (fault : CommitFault) → ticket.life ≡ met.life → Commits judge met ticket request bound now (Err (back, fault)) left → (x : LdapResult) × (commit_result fault ≡ Some x)
fault_told judge met left ticket back request bound now commit.NoMemory same s = (result_of 80, refl)
fault_told judge met left ticket back request bound now (commit.Stale life node_life) same s = absurd (own_is_fresh met ticket.life ticket.csn (verdict_at judge met request bound) now false node_life same s.0.0)
fault_told judge met left ticket back request bound now (commit.Refused x) same s = (x, refl)
fault_told judge met left ticket back request bound now (commit.Exhausted last) same s = (used_up, refl)
fault_told judge met left ticket back request bound now commit.KeeperFault same s = (result_of 52, refl)
