-- A write by the calls of a world's node is the write of its world.
use Rattle.std.proofs.Common.{◌≡◌, ℕ, ◌≤◌, List, Some, None, refl, sym, ap, subst, ◌∙◌, arith}
use Rattle.std.specs.Prelude.{◌≢◌, Result, Ok, Err, IsSome, IfSome}
use Rattle.repl_data.specs.declared.csn.Csn.{Csn}
use Rattle.ldap_types.specs.declared.request.Request.{Request}
use Rattle.ldap_types.specs.declared.reply.Identity.{Identity}
use Rattle.ldap_types.specs.declared.reply.LdapResult.{LdapResult}
use Rattle.ldap_rules.specs.Case.{result_of}
use Rattle.ldap_rules.specs.Verdict.{Verdict}
use Rattle.node_core.specs.declared.fault.BeginFault.{BeginFault}
use Rattle.node_core.specs.declared.fault.BeginFault.TheVariants as begin
use Rattle.node_core.specs.declared.fault.CommitFault.{CommitFault}
use Rattle.node_core.specs.declared.fault.CommitFault.TheVariants as commit
use Rattle.node_core.specs.declared.ticket.Ticket.{Ticket}
use Rattle.node_core.specs.declared.ticket.Receipt.{Receipt}
use Rattle.node_core.specs.Node.{Node}
use Rattle.node_core.specs.Steps.{NoTicket, Full, Exhausted, judge_view, verdict_at, begin_answer, after_begin}
use Rattle.node_core.specs.Calls.{CommitCause, CommitsUnder}
use Rattle.world_core.specs.World.{World, node_in, with_node, put, begin_at}
use Rattle.world_core.specs.Write.{busy, success, written_from, write_in}
use Rattle.world_core.specs.At.{At, at_reach}
use Rattle.world_core.specs.Held.{answer_of}
use Rattle.world_core.specs.Laws.{IsNode}
use Rattle.world_core.proofs.Honest.{with-IsNode}
use Rattle.world_core.proofs.Outcomes.{same_node}
use Rattle.world_core.proofs.Failures.{fault-says}
use Rattle.world_core.proofs.WriteSteps.{IsTold, finish-committed, finish-refused, written-done}
use Rattle.conn_core.specs.Serving.{IsBegun, IsCommitted, IsEnded, IsWritten, not_begun, settled, aborted, begin_result, commit_result}

-- no answer for want of memory
abbrev pub IsNotStarved : LdapResult → Type 0
IsNotStarved result = result.code.number ≡ 80 → ⊥

abbrev pub at : World → ℕ → At
at w n = record { world = w; n = n }

-- a world that differs from another in its nodes alone
same_rest : (a b : World) (nodes : List Node) → b ≡ record a { nodes = nodes } → record a { nodes = b.nodes } ≡ b
same_rest a b nodes e = ap (λ ns. record a { nodes = ns }) (ap (λ (x : World). x.nodes) e) ∙ sym e

some_same : {A : Type 0} {a b : A} → Some a ≡ Some b → a ≡ b
some_same e = cc

none_some : {A : Type 0} {a : A} → None ≡ Some a → ⊥
none_some e = cc

module _ (w : World) (n : ℕ) (request : Request) (bound : Identity) where
  -- ---- no ticket was begun

  not_begun-in : (v : World) (fault : BeginFault) → IsBegun at_reach w.clock (at w n) (at v n) (Err fault) → IsNotStarved (begin_result fault) → write_in judge_view w n request bound ≡ (v, begin_result fault)
  not_begun-in v begin.NoMemory b fed = absurd (fed refl)
  not_begun-in v begin.Full b fed = ap (λ a. written_from judge_view w n request bound a) b.step.0 ∙ ap (λ x. (x, busy)) (sym (left b.step.1))
    where
      left : node_in v n ≡ node_in w n → v ≡ w
      left e = b.call.beside.world ∙ ap (λ m. put w n m) e ∙ ap (λ ns. record w { nodes = ns }) (same_node w.nodes n)
  not_begun-in v (begin.Exhausted last) b fed = ap (λ a. written_from judge_view w n request bound a) b.step.0 ∙ ap (λ x. (x, begin_result (begin.Exhausted last))) (sym (left b.step.1))
    where
      left : node_in v n ≡ node_in w n → v ≡ w
      left e = b.call.beside.world ∙ ap (λ m. put w n m) e ∙ ap (λ ns. record w { nodes = ns }) (same_node w.nodes n)

  -- ---- one was

  module _ (v u x : World) (ticket : Ticket) (b : IsBegun at_reach w.clock (at w n) (at v n) (Ok ticket)) where
    abbrev verdict : Verdict
    verdict = verdict_at judge_view (node_in v n) request bound

    begun : v ≡ begin_at w n
    begun = b.call.beside.world ∙ ap (λ m. put w n m) (b.step.2 ∙ ap (λ a. after_begin (node_in w n) a) (sym b.step.0))

    same_clock : v.clock ≡ w.clock
    same_clock = ap (λ (y : World). y.clock) b.call.beside.world

    same_life : ticket.life ≡ (node_in v n).life
    same_life = b.step.1 ∙ sym (ap (λ (m : Node). m.life) b.step.2)

    -- what a commit and an end leave besides the nodes
    rest : (commits : u ≡ put v n (node_in u n)) → x ≡ put u n (node_in x n) → record v { nodes = x.nodes } ≡ x
    rest commits ends = same_rest v x (with_node (with_node v.nodes n (node_in u n)) n (node_in x n)) (ends ∙ ap (λ y. put y n (node_in x n)) commits)

    settled-in : (receipt : Receipt) → IsCommitted at_reach w.clock bound request ticket (at v n) (at u n) (Ok receipt) → IsEnded at_reach receipt.life receipt.csn (at u n) (at x n) → write_in judge_view w n request bound ≡ (x, result_of 0)
    settled-in receipt c e =
        let step = subst (λ t. CommitsUnder (node_in v n) ticket verdict t (Ok receipt) (node_in u n)) (sym same_clock) c.step in
        let nodes = ap (λ (y : World). y.nodes) e.call.beside.world ∙ ap (λ m. with_node u.nodes n m) e.step in
        written-done w v n request bound ticket.csn x success b.step.0 begun
        (finish-committed v n ticket receipt verdict u.nodes x.nodes same_life step (ap (λ (y : World). y.nodes) c.call.beside.world) nodes
        ∙ ap (λ y. (y, success)) (rest c.call.beside.world e.call.beside.world))

    not_keeper : (back : Ticket) (fault : CommitFault) → CommitCause 0 0 (Err (back, fault)) → fault ≢ commit.KeeperFault
    not_keeper back fault h e = (let r : CommitCause 0 0 (Err (back, commit.KeeperFault)) = subst (λ f. CommitCause 0 0 (Err (back, f))) e h in rose r)
      where
        rose : 1 ≤ 0 → ⊥
        rose q = omega arith

    -- the result is that of the definitions
    has_answer : (fault : CommitFault) (result : LdapResult) → fault ≢ commit.KeeperFault → commit_result fault ≡ Some result → IsNotStarved result → IsSome (answer_of fault) × IfSome (answer_of fault) (λ a. IsTold a result)
    has_answer commit.NoMemory result k e fed = absurd (fed (ap (λ (r : LdapResult). r.code.number) (sym (some_same e))))
    has_answer (commit.Stale life node_life) result k e fed = absurd (none_some e)
    has_answer (commit.Refused answer) result k e fed = (refl, sym (some_same e))
    has_answer (commit.Exhausted last) result k e fed = (refl, sym (some_same e))
    has_answer commit.KeeperFault result k e fed = absurd (k refl)

    aborted-in : (back : Ticket) (fault : CommitFault) (result : LdapResult) → IsCommitted at_reach w.clock bound request ticket (at v n) (at u n) (Err (back, fault)) → commit_result fault ≡ Some result → IsEnded at_reach back.life back.csn (at u n) (at x n) → IsNotStarved result → write_in judge_view w n request bound ≡ (x, result)
    aborted-in back fault result c told e fed =
        let step = subst (λ t. CommitsUnder (node_in v n) ticket verdict t (Err (back, fault)) (node_in u n)) (sym same_clock) c.step in
        let keeper = not_keeper back fault c.cause in
        let answer = has_answer fault result keeper told fed in
        let nodes = ap (λ (y : World). y.nodes) e.call.beside.world ∙ ap (λ m. with_node u.nodes n m) e.step in
        written-done w v n request bound ticket.csn x result b.step.0 begun
        (finish-refused v n ticket back verdict fault (Ok result) u.nodes x.nodes same_life (fault-says (node_in v n) ticket back verdict v.clock fault (node_in u n) step keeper) (ap (λ (y : World). y.nodes) c.call.beside.world) nodes answer.0 answer.1
        ∙ ap (λ y. (y, result)) (rest c.call.beside.world e.call.beside.world))

-- ---- the whole write

is_at : (old new : At) → new.n ≡ old.n → new ≡ at new.world old.n
is_at old new e = ap (λ n. at new.world n) e

pub written-at : (old new : At) (request : Request) (bound : Identity) {result : LdapResult} → IsWritten at_reach old.world.clock bound request old new result → IsNotStarved result → (new.n ≡ old.n) × (write_in judge_view old.world old.n request bound ≡ (new.world, result))
written-at old new request bound (not_begun fault b) fed =
    let now = old.world.clock in
    let b' = subst (λ y. IsBegun at_reach now old y (Err fault)) (is_at old new b.call.beside.same) b in
    (b.call.beside.same, not_begun-in old.world old.n request bound new.world fault b' fed)
written-at old new request bound (settled ticket receipt begun committed b c e) fed =
    let now = old.world.clock in
    let b' = subst (λ y. IsBegun at_reach now old y (Ok ticket)) (is_at old begun b.call.beside.same) b in
    let c' = subst (λ y. IsCommitted at_reach now bound request ticket y committed (Ok receipt)) (is_at old begun b.call.beside.same) c in
    let c'' = subst (λ y. IsCommitted at_reach now bound request ticket (at begun.world old.n) y (Ok receipt)) (is_at old committed c'.call.beside.same) c' in
    let e' = subst (λ y. IsEnded at_reach receipt.life receipt.csn y new) (is_at old committed c'.call.beside.same) e in
    let e'' = subst (λ y. IsEnded at_reach receipt.life receipt.csn (at committed.world old.n) y) (is_at old new e'.call.beside.same) e' in
    (e'.call.beside.same, settled-in old.world old.n request bound begun.world committed.world new.world ticket b' receipt c'' e'')
written-at old new request bound (aborted ticket back fault result begun committed b c told e) fed =
    let now = old.world.clock in
    let b' = subst (λ y. IsBegun at_reach now old y (Ok ticket)) (is_at old begun b.call.beside.same) b in
    let c' = subst (λ y. IsCommitted at_reach now bound request ticket y committed (Err (back, fault))) (is_at old begun b.call.beside.same) c in
    let c'' = subst (λ y. IsCommitted at_reach now bound request ticket (at begun.world old.n) y (Err (back, fault))) (is_at old committed c'.call.beside.same) c' in
    let e' = subst (λ y. IsEnded at_reach back.life back.csn y new) (is_at old committed c'.call.beside.same) e in
    let e'' = subst (λ y. IsEnded at_reach back.life back.csn (at committed.world old.n) y) (is_at old new e'.call.beside.same) e' in
    (e'.call.beside.same, aborted-in old.world old.n request bound begun.world committed.world new.world ticket b' back fault result c'' told e'' fed)

-- it leaves the time as it was
pub write-clock : (w : World) (n : ℕ) (request : Request) (bound : Identity) → (write_in judge_view w n request bound).0.clock ≡ w.clock
write-clock w n request bound = by_begin (begin_answer (node_in w n) w.clock)
  where
    by_begin : (a : Result Csn NoTicket) → (written_from judge_view w n request bound a).0.clock ≡ w.clock
    by_begin (Ok csn) = refl
    by_begin (Err (Exhausted last)) = refl
    by_begin (Err Full) = refl

-- and there are the nodes that were there
pub write-node : (w : World) (n : ℕ) (request : Request) (bound : Identity) → IsNode w.nodes n → IsNode (write_in judge_view w n request bound).0.nodes n
write-node w n request bound i = by_begin (begin_answer (node_in w n) w.clock)
  where
    by_begin : (a : Result Csn NoTicket) → IsNode (written_from judge_view w n request bound a).0.nodes n
    by_begin (Ok csn) = with-IsNode _ n n _ (with-IsNode _ n n _ (with-IsNode w.nodes n n _ i))
    by_begin (Err (Exhausted last)) = i
    by_begin (Err Full) = i
