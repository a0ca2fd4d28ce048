-- What a commit that failed makes of a ticket that is held.
use Rattle.std.proofs.Common.{◌≡◌, ◌≢◌, ℕ, false, List, refl, sym, ap, subst, ◌∙◌, Option, Some, None}
use Rattle.std.specs.Prelude.{Result, Ok, Err, IfOk, OnErr, IfSome, IsSome, IsErr}
use Rattle.std.proofs.lemmas.Bool.{true≢false}
use Rattle.vector_core.proofs.Lists.{Contains-map}
use Rattle.repl_data.specs.declared.csn.Csn.{Csn}
use Rattle.repl_data.specs.declared.change.Change.{Change}
use Rattle.repl_data.specs.declared.items.NoMemory.{NoMemory}
use Rattle.repl_data.specs.Order.{number_of}
use Rattle.ldap_types.specs.declared.request.Request.{Request}
use Rattle.ldap_types.specs.declared.reply.Identity.{Identity}
use Rattle.ldap_types.specs.declared.reply.LdapResult.{LdapResult}
use Rattle.ldap_rules.specs.Verdict.{Verdict}
use Rattle.node_core.specs.declared.fault.CommitFault.{CommitFault}
use Rattle.node_core.specs.declared.fault.CommitFault.TheVariants as commit
use Rattle.node_core.specs.declared.ticket.Ticket.{Ticket as NodeTicket}
use Rattle.node_core.specs.Node.{Node}
use Rattle.node_core.specs.Sound.{IsOpen}
use Rattle.node_core.specs.Steps.{CommitAnswer, commit_answer, after_commit, Stale, Refused, CommitExhausted, KeeperFailed, Committed}
use Rattle.node_core.specs.Calls.{CommitsUnder, IsPendingTaken}
use Rattle.world_core.specs.declared.commit.Failure.{Failure}
use Rattle.world_core.specs.declared.event.Happened.{Happened}
use Rattle.world_core.specs.World.{Ticket, node_of, with_node, ticket_after, commit_happened}
use Rattle.world_core.specs.Held.{answer_of}
use Rattle.world_core.specs.Commits.{CommitsHeld, held_verdict}
use Rattle.world_core.proofs.Outcomes.{same_node}

-- an open ticket is not committed
pub open-untaken : (n : Node) (csn : Csn) → IsOpen n csn → IsPendingTaken n csn → ⊥
open-untaken n csn o p =
    let x = Contains-map (λ (c : Change). c.csn) n.taken csn p.is_taken in
    o.not_taken x.0 x.1 (ap number_of x.2)

pub record FaultSays (met : Node) (ticket back : NodeTicket) (verdict : Verdict) (now : ℕ) (fault : CommitFault) (left : Node) : Type 0 where
  pub same_ticket : back ≡ ticket
  pub same_node : left ≡ met
  pub answers : (a : CommitAnswer) → answer_of fault ≡ Some a → (commit_answer met ticket.life ticket.csn verdict now false ≡ a) × (after_commit met ticket.csn verdict a ≡ met)

pub fault-says : (met : Node) (ticket back : NodeTicket) (verdict : Verdict) (now : ℕ) (fault : CommitFault) (left : Node) → CommitsUnder met ticket verdict now (Err (back, fault)) left → fault ≢ commit.KeeperFault → FaultSays met ticket back verdict now fault left
fault-says met ticket back verdict now commit.NoMemory left h k = record { same_ticket = h.0; same_node = h.1; answers = λ a e. absurd (none e) }
  where
    none : {a : CommitAnswer} → None ≡ Some a → ⊥
    none e = cc
fault-says met ticket back verdict now (commit.Stale life node_life) left h k = record {
  same_ticket = h.1;
  same_node = h.0.1;
  answers = λ a e. subst (λ z. (commit_answer met ticket.life ticket.csn verdict now false ≡ z) × (after_commit met ticket.csn verdict z ≡ met)) (some e) (h.0.0, refl);
}
  where
    some : {a b : CommitAnswer} → Some a ≡ Some b → a ≡ b
    some e = cc
fault-says met ticket back verdict now (commit.Refused result) left h k = record {
  same_ticket = h.1;
  same_node = h.0.1;
  answers = λ a e. subst (λ z. (commit_answer met ticket.life ticket.csn verdict now false ≡ z) × (after_commit met ticket.csn verdict z ≡ met)) (some e) (h.0.0, refl);
}
  where
    some : {a b : CommitAnswer} → Some a ≡ Some b → a ≡ b
    some e = cc
fault-says met ticket back verdict now (commit.Exhausted last) left h k = record {
  same_ticket = h.1;
  same_node = h.0.1;
  answers = λ a e. subst (λ z. (commit_answer met ticket.life ticket.csn verdict now false ≡ z) × (after_commit met ticket.csn verdict z ≡ met)) (some e) (h.0.0, refl);
}
  where
    some : {a b : CommitAnswer} → Some a ≡ Some b → a ≡ b
    some e = cc
fault-says met ticket back verdict now commit.KeeperFault left h k = absurd (k refl)

abbrev pub held_open : ℕ → ℕ → Request → Identity → Option LdapResult → NodeTicket → Ticket
held_open number node request bound trouble ticket = record { number = number; node = node; life = ticket.life; csn = ticket.csn; request = request; bound = bound; committed = false; trouble = trouble }

-- what the ticket keeps
only_trouble : (number node : ℕ) (request : Request) (bound : Identity) (trouble : Option LdapResult) (ticket : NodeTicket) (fault : CommitFault) (a : CommitAnswer) → answer_of fault ≡ Some a → held_open number node request bound (ticket_after (held_open number node request bound trouble ticket) a).trouble ticket ≡ ticket_after (held_open number node request bound trouble ticket) a
only_trouble number node request bound trouble ticket fault (Stale life) e = refl
only_trouble number node request bound trouble ticket fault (Refused result) e = refl
only_trouble number node request bound trouble ticket fault (CommitExhausted last) e = refl
only_trouble number node request bound trouble ticket commit.NoMemory (KeeperFailed csn) e = absurd (none e)
  where
    none : {a : CommitAnswer} → None ≡ Some a → ⊥
    none q = cc
only_trouble number node request bound trouble ticket commit.KeeperFault (KeeperFailed csn) e = absurd (none e)
  where
    none : {a : CommitAnswer} → None ≡ Some a → ⊥
    none q = cc
only_trouble number node request bound trouble ticket (commit.Stale l m) (KeeperFailed csn) e = absurd (no e)
  where
    no : Some (Stale m) ≡ Some (KeeperFailed csn) → ⊥
    no q = cc
only_trouble number node request bound trouble ticket (commit.Refused r) (KeeperFailed csn) e = absurd (no e)
  where
    no : Some (Refused r) ≡ Some (KeeperFailed csn) → ⊥
    no q = cc
only_trouble number node request bound trouble ticket (commit.Exhausted l) (KeeperFailed csn) e = absurd (no e)
  where
    no : answer_of (commit.Exhausted l) ≡ Some (KeeperFailed csn) → ⊥
    no q = cc
only_trouble number node request bound trouble ticket commit.NoMemory (Committed csn) e = absurd (none e)
  where
    none : {a : CommitAnswer} → None ≡ Some a → ⊥
    none q = cc
only_trouble number node request bound trouble ticket commit.KeeperFault (Committed csn) e = absurd (none e)
  where
    none : {a : CommitAnswer} → None ≡ Some a → ⊥
    none q = cc
only_trouble number node request bound trouble ticket (commit.Stale l m) (Committed csn) e = absurd (no e)
  where
    no : Some (Stale m) ≡ Some (Committed csn) → ⊥
    no q = cc
only_trouble number node request bound trouble ticket (commit.Refused r) (Committed csn) e = absurd (no e)
  where
    no : Some (Refused r) ≡ Some (Committed csn) → ⊥
    no q = cc
only_trouble number node request bound trouble ticket (commit.Exhausted l) (Committed csn) e = absurd (no e)
  where
    no : answer_of (commit.Exhausted l) ≡ Some (Committed csn) → ⊥
    no q = cc

-- what is known after a failure was told
pub record IsTold (t : Ticket) (n : Node) (fault : CommitFault) (r : Result Failure NoMemory) (before : Option LdapResult) (told : Option LdapResult × Result Happened NoMemory) : Type 0 where
  pub some : IfOk r (λ f. IsSome (answer_of fault))
  pub trouble : IfOk r (λ f. IfSome (answer_of fault) (λ a. f.trouble ≡ (ticket_after t a).trouble))
  pub happened : IfOk r (λ f. IfSome (answer_of fault) (λ a. f.happened ≡ commit_happened t a n))
  pub ok : IfOk r (λ f. told ≡ (f.trouble, Ok f.happened))
  pub err : OnErr r ((told.0 ≡ before) × IsErr told.1)

answer-is : (o : Option CommitAnswer) → IsSome o → (a : CommitAnswer) × (o ≡ Some a)
answer-is (Some a) i = (a, refl)
answer-is None i = absurd (true≢false (sym i))

is_err-no : {X E : Type 0} (r : Result X E) (P : X → Type 0) → IsErr r → IfOk r P
is_err-no (Ok x) P e = absurd (true≢false (sym e))
is_err-no (Err y) P e = tt

pub failed-ok : (nodes new : List Node) (clock number node : ℕ) (request : Request) (bound : Identity) (trouble : Option LdapResult) (ticket back : NodeTicket) (fault : CommitFault) (r : Result Failure NoMemory) (told : Option LdapResult × Result Happened NoMemory) →
    FaultSays (node_of nodes node) ticket back (held_verdict nodes (held_open number node request bound trouble ticket)) clock fault (node_of new node) →
    new ≡ with_node nodes node (node_of new node) →
    IsTold (held_open number node request bound trouble ticket) (node_of nodes node) fault r trouble told →
    IfOk told.1 (λ happened. CommitsHeld nodes clock (held_open number node request bound trouble ticket) (held_open number node request bound told.0 back) happened new)
failed-ok nodes new clock number node request bound trouble ticket back fault (Err short) told f o i = is_err-no told.1 _ i.err.1
failed-ok nodes new clock number node request bound trouble ticket back fault (Ok g) told f o i =
    let t = held_open number node request bound trouble ticket in
    let x = answer-is (answer_of fault) i.some in
    let a = x.0 in
    let s = f.answers a x.1 in
    let tr : g.trouble ≡ (ticket_after t a).trouble = subst (λ z. IfSome z (λ b. g.trouble ≡ (ticket_after t b).trouble)) x.1 i.trouble in
    let hp : g.happened ≡ commit_happened t a (node_of nodes node) = subst (λ z. IfSome z (λ b. g.happened ≡ commit_happened t b (node_of nodes node))) x.1 i.happened in
    subst (λ (z : Option LdapResult × Result Happened NoMemory). IfOk z.1 (λ happened. CommitsHeld nodes clock t (held_open number node request bound z.0 back) happened new)) (sym i.ok)
    (record {
      ticket = ap (λ (b : NodeTicket). held_open number node request bound g.trouble b) f.same_ticket ∙ ap (λ z. held_open number node request bound z ticket) tr ∙ only_trouble number node request bound trouble ticket fault a x.1 ∙ ap (λ b. ticket_after t b) (sym s.0);
      told = hp ∙ ap (λ b. commit_happened t b (node_of nodes node)) (sym s.0);
      nodes_are = o ∙ ap (λ m. with_node nodes node m) (f.same_node ∙ sym s.1 ∙ ap (λ b. after_commit (node_of nodes node) ticket.csn (held_verdict nodes t) b) (sym s.0));
    })

pub failed-err : (nodes new : List Node) (clock number node : ℕ) (request : Request) (bound : Identity) (trouble : Option LdapResult) (ticket back : NodeTicket) (fault : CommitFault) (r : Result Failure NoMemory) (told : Option LdapResult × Result Happened NoMemory) →
    FaultSays (node_of nodes node) ticket back (held_verdict nodes (held_open number node request bound trouble ticket)) clock fault (node_of new node) →
    new ≡ with_node nodes node (node_of new node) →
    IsTold (held_open number node request bound trouble ticket) (node_of nodes node) fault r trouble told →
    OnErr told.1 ((held_open number node request bound told.0 back ≡ held_open number node request bound trouble ticket) × (new ≡ nodes))
failed-err nodes new clock number node request bound trouble ticket back fault (Ok g) told f o i =
    subst (λ (z : Option LdapResult × Result Happened NoMemory). OnErr z.1 ((held_open number node request bound z.0 back ≡ held_open number node request bound trouble ticket) × (new ≡ nodes))) (sym i.ok) tt
failed-err nodes new clock number node request bound trouble ticket back fault (Err short) told f o i =
    wrap told.1 (
      ap (λ (b : NodeTicket). held_open number node request bound told.0 b) f.same_ticket ∙ ap (λ z. held_open number node request bound z ticket) i.err.0,
      o ∙ ap (λ m. with_node nodes node m) f.same_node ∙ same_node nodes node,
    )
  where
    wrap : (q : Result Happened NoMemory) → (held_open number node request bound told.0 back ≡ held_open number node request bound trouble ticket) × (new ≡ nodes) → OnErr q ((held_open number node request bound told.0 back ≡ held_open number node request bound trouble ticket) × (new ≡ nodes))
    wrap (Ok h) x = tt
    wrap (Err e) x = x
