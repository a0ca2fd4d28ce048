-- What a commit makes of a ticket that is held.
use Rattle.std.specs.Prelude.{◌≡◌, ℕ, false, List}
use Rattle.node_core.specs.Node.{Node}
use Rattle.node_core.specs.Steps.{judge_view, verdict_at, CommitAnswer, commit_answer, after_commit}
use Rattle.ldap_rules.specs.Verdict.{Verdict}
use Rattle.world_core.specs.declared.event.Happened.{Happened}
use Rattle.world_core.specs.World.{Ticket, node_of, with_node, ticket_after, commit_happened}

-- the verdict on a ticket, and the answer to it
abbrev pub held_verdict : List Node → Ticket → Verdict
held_verdict nodes t = verdict_at judge_view (node_of nodes t.node) t.request t.bound

abbrev pub held_answer : List Node → ℕ → Ticket → CommitAnswer
held_answer nodes clock t = commit_answer (node_of nodes t.node) t.life t.csn (held_verdict nodes t) clock false

-- the ticket, what happened and the nodes, after the commit of a ticket
pub record CommitsHeld (nodes : List Node) (clock : ℕ) (t left : Ticket) (happened : Happened) (new : List Node) : Type 0 where
  pub ticket : left ≡ ticket_after t (held_answer nodes clock t)
  pub told : happened ≡ commit_happened t (held_answer nodes clock t) (node_of nodes t.node)
  pub nodes_are : new ≡ with_node nodes t.node (after_commit (node_of nodes t.node) t.csn (held_verdict nodes t) (held_answer nodes clock t))
