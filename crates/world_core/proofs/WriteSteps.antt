-- A write that a client asks for, from the parts that the code finds.
use Rattle.std.proofs.Common.{◌≡◌, ℕ, true, false, List, refl, sym, ap, subst, ◌∙◌, Option, Some, None, eq-eqb}
use Rattle.std.specs.Prelude.{Result, Ok, Err, IfOk, IfSome, IsSome}
use Rattle.repl_data.specs.declared.csn.Csn.{Csn}
use Rattle.repl_data.specs.declared.items.NoMemory.{NoMemory}
use Rattle.repl_data.specs.Closed.{needed}
use Rattle.vector_core.proofs.Lists.{if_true}
use Rattle.ldap_types.specs.declared.request.Request.{Request}
use Rattle.ldap_types.specs.declared.reply.Identity.{Identity}
use Rattle.ldap_types.specs.declared.reply.LdapResult.{LdapResult}
use Rattle.ldap_rules.specs.Verdict.{Verdict, Refuses, Writes, Answers}
use Rattle.ldap_rules.specs.Laws.{target_at}
use Rattle.node_core.specs.declared.fault.CommitFault.{CommitFault}
use Rattle.node_core.specs.declared.fault.CommitFault.TheVariants as commit
use Rattle.node_core.specs.declared.ticket.Ticket.{Ticket as NodeTicket}
use Rattle.node_core.specs.declared.ticket.Receipt.{Receipt}
use Rattle.node_core.specs.Node.{Node}
use Rattle.node_core.specs.Steps.{judge_view, verdict_at, begin_answer, csn_for, CommitAnswer, Stale, Refused, CommitExhausted, KeeperFailed, Committed, kept_at, judged, commit_answer, after_commit, ended}
use Rattle.node_core.specs.Calls.{CommitsUnder}
use Rattle.node_core.proofs.Draws.{Some-same}
use Rattle.world_core.specs.World.{World, used_up, node_of, with_node, node_in, begin_at, committing}
use Rattle.world_core.specs.Write.{success, kept_result, result_of, csn_after, finished, written_from, write_in}
use Rattle.world_core.specs.Held.{answer_of}
use Rattle.world_core.proofs.Outcomes.{same_node}
use Rattle.world_core.proofs.Failures.{FaultSays}

-- ---- the result

-- the result that a client is told of this answer; a ticket that was drawn just now is not stale, and no keeper fails
abbrev pub IsTold : CommitAnswer → LdapResult → Type 0
IsTold (Committed csn) result = result ≡ success
IsTold (Refused refusal) result = result ≡ refusal
IsTold (CommitExhausted last) result = result ≡ used_up
IsTold (KeeperFailed csn) result = ⊥
IsTold (Stale life) result = ⊥

-- it is one
one_told : (a : CommitAnswer) (x y : LdapResult) → IsTold a x → IsTold a y → x ≡ y
one_told (Committed csn) x y p q = p ∙ sym q
one_told (Refused refusal) x y p q = p ∙ sym q
one_told (CommitExhausted last) x y p q = p ∙ sym q
one_told (KeeperFailed csn) x y p q = absurd p
one_told (Stale life) x y p q = absurd p

kept-told : (n : Node) (o : Option Csn) → IsTold (kept_at n o false) (kept_result o)
kept-told n None = refl
kept-told n (Some csn) = refl

judged-told : (n : Node) (csn : Csn) (v : Verdict) (now : ℕ) → IsTold (judged n csn v now false) (result_of n csn v now)
judged-told n csn (Refuses result) now = refl
judged-told n csn (Answers result) now = refl
judged-told n csn (Writes target body) now = kept-told n (csn_for n csn (needed (target_at csn target) body) now)

-- of a ticket of the node's present life
commit-told : (n : Node) (csn : Csn) (v : Verdict) (now : ℕ) (a : CommitAnswer) → commit_answer n n.life csn v now false ≡ a → IsTold a (result_of n csn v now)
commit-told n csn v now a e =
    subst (λ x. IsTold x (result_of n csn v now)) (sym (if_true (judged n csn v now false) (Stale n.life) (eq-eqb n.life n.life refl)) ∙ e) (judged-told n csn v now)

-- ---- commit and settle

abbrev world_after : World → ℕ → List Node → ℕ → Csn → World
world_after w r ns life csn = record w { nodes = with_node ns r (ended (node_of ns r) life csn) }

pub finish-committed : (w : World) (r : ℕ) (ticket : NodeTicket) (receipt : Receipt) (v : Verdict) (mid new : List Node) → ticket.life ≡ (node_in w r).life → CommitsUnder (node_in w r) ticket v w.clock (Ok receipt) (node_of mid r) → mid ≡ with_node w.nodes r (node_of mid r) → new ≡ with_node mid r (ended (node_of mid r) receipt.life receipt.csn) → finished w r ticket.csn v (committing w r (node_in w r).life ticket.csn v) ≡ (record w { nodes = new }, success)
finish-committed w r ticket receipt v mid new l h o s =
    let life = (node_in w r).life in
    let a = committing w r life ticket.csn v in
    let is : a ≡ Committed receipt.csn = ap (λ x. commit_answer (node_in w r) x ticket.csn v w.clock false) (sym l) ∙ h.0.0 in
    let there : with_node w.nodes r (after_commit (node_in w r) ticket.csn v a) ≡ mid =
    ap (λ x. with_node w.nodes r (after_commit (node_in w r) ticket.csn v x)) is ∙ ap (λ m. with_node w.nodes r m) (sym h.0.1) ∙ sym o in
    let told : result_of (node_in w r) ticket.csn v w.clock ≡ success = commit-told (node_in w r) ticket.csn v w.clock (Committed receipt.csn) is in
    ap (λ ns. (world_after w r ns life (csn_after ticket.csn a), result_of (node_in w r) ticket.csn v w.clock)) there
    ∙ ap (λ x. (world_after w r mid life (csn_after ticket.csn x), result_of (node_in w r) ticket.csn v w.clock)) is
    ∙ ap (λ x. (world_after w r mid life receipt.csn, x)) told
    ∙ ap (λ x. (world_after w r mid x receipt.csn, success)) (sym h.1)
    ∙ ap (λ ns. (record w { nodes = ns }, success)) (sym s)

-- ---- a commit that failed, and the abort

csn-stays : (fault : CommitFault) (csn : Csn) (a : CommitAnswer) → answer_of fault ≡ Some a → csn_after csn a ≡ csn
csn-stays commit.NoMemory csn a e = absurd (none_some e)
  where
    none_some : {x : CommitAnswer} → None ≡ Some x → ⊥
    none_some q = cc
csn-stays commit.KeeperFault csn a e = absurd (none_some e)
  where
    none_some : {x : CommitAnswer} → None ≡ Some x → ⊥
    none_some q = cc
csn-stays (commit.Stale life node_life) csn a e = subst (λ x. csn_after csn x ≡ csn) (Some-same e) refl
csn-stays (commit.Refused result) csn a e = subst (λ x. csn_after csn x ≡ csn) (Some-same e) refl
csn-stays (commit.Exhausted last) csn a e = subst (λ x. csn_after csn x ≡ csn) (Some-same e) refl

answer-is : (o : Option CommitAnswer) → IsSome o → (a : CommitAnswer) × (o ≡ Some a)
answer-is (Some a) i = (a, refl)
answer-is None i = absurd (false_true i)
  where
    false_true : false ≡ true → ⊥
    false_true q = cc

pub finish-refused : (w : World) (r : ℕ) (ticket back : NodeTicket) (v : Verdict) (fault : CommitFault) (said : Result LdapResult NoMemory) (mid new : List Node) →
    ticket.life ≡ (node_in w r).life →
    FaultSays (node_in w r) ticket back v w.clock fault (node_of mid r) →
    mid ≡ with_node w.nodes r (node_of mid r) →
    new ≡ with_node mid r (ended (node_of mid r) back.life back.csn) →
    IfOk said (λ answer. IsSome (answer_of fault)) →
    IfOk said (λ answer. IfSome (answer_of fault) (λ a. IsTold a answer)) →
    IfOk said (λ answer. finished w r ticket.csn v (committing w r (node_in w r).life ticket.csn v) ≡ (record w { nodes = new }, answer))
finish-refused w r ticket back v fault (Err short) mid new l f o s i j = tt
finish-refused w r ticket back v fault (Ok answer) mid new l f o s i j =
    let life = (node_in w r).life in
    let c = committing w r life ticket.csn v in
    let x = answer-is (answer_of fault) i in
    let a = x.0 in
    let k = f.answers a x.1 in
    let is : c ≡ a = ap (λ z. commit_answer (node_in w r) z ticket.csn v w.clock false) (sym l) ∙ k.0 in
    let result : LdapResult = result_of (node_in w r) ticket.csn v w.clock in
    let told : answer ≡ result = one_told a answer result (subst (λ z. IfSome z (λ b. IsTold b answer)) x.1 j) (commit-told (node_in w r) ticket.csn v w.clock a is) in
    let there : with_node w.nodes r (after_commit (node_in w r) ticket.csn v c) ≡ mid =
    ap (λ z. with_node w.nodes r (after_commit (node_in w r) ticket.csn v z)) is ∙ ap (λ m. with_node w.nodes r m) (k.1 ∙ sym f.same_node) ∙ sym o in
    ap (λ ns. (world_after w r ns life (csn_after ticket.csn c), result)) there
    ∙ ap (λ z. (world_after w r mid life (csn_after ticket.csn z), result)) is
    ∙ ap (λ z. (world_after w r mid life z, result)) (csn-stays fault ticket.csn a x.1)
    ∙ ap (λ z. (world_after w r mid z ticket.csn, result)) (sym l)
    ∙ ap (λ (b : NodeTicket). (world_after w r mid b.life b.csn, result)) (sym f.same_ticket)
    ∙ ap (λ ns. (record w { nodes = ns }, result)) (sym s)
    ∙ ap (λ z. (record w { nodes = new }, z)) (sym told)

-- ---- the whole

pub written-done : (w v : World) (r : ℕ) (request : Request) (bound : Identity) (csn : Csn) (after : World) (answer : LdapResult) → begin_answer (node_in w r) w.clock ≡ Ok csn → v ≡ begin_at w r → finished v r csn (verdict_at judge_view (node_in v r) request bound) (committing v r (node_in v r).life csn (verdict_at judge_view (node_in v r) request bound)) ≡ (after, answer) → write_in judge_view w r request bound ≡ (after, answer)
written-done w v r request bound csn after answer e b h =
    ap (λ a. written_from judge_view w r request bound a) e
    ∙ ap (λ (x : World). finished x r csn (verdict_at judge_view (node_in x r) request bound) (committing x r (node_in x r).life csn (verdict_at judge_view (node_in x r) request bound))) (sym b) ∙ h
