use Rattle.std.proofs.Common.{◌≡◌, sym, ap, subst}
use Rattle.std.specs.Prelude.{MatchResult}
use Rattle.node_core.specs.declared.fault.CommitFault.{CommitFault}
use Rattle.node_core.specs.declared.ticket.Ticket.{Ticket}
use Rattle.node_core.specs.declared.ticket.Receipt.{Receipt}
use Rattle.node_core.specs.Steps.{judge_view}
use Rattle.node_core.specs.Calls.{IsCall, AreSame, IsAdded, IsMoved, Commits, csn_left}
use Rattle.world_core.specs.Laws.{IsNode}
use Rattle.world_core.specs.At.{At, reached, at_reach, IsOpenAt, IsCommittedAt}
use Rattle.world_core.specs.State.{world_of}
use Rattle.world_core.specs.World.{node_of}
use Rattle.world_core.proofs.Honest.{with-IsNode}
use Rattle.world_core.proofs.CallsKept.{commit-kept}
use Rattle.world_core.proofs.AtCalls.{IsGiven, beside-of, call-of, given-usable, commit-open_at, commit-committed_at, commit-uncommitted_at}
use Rattle.world_core.proofs.at.AtNodeNodeCalls.commit.Goals as goal

-- the ticket is one that may be used
pub commit_at-requires-clause-open : goal.commit_at-requires-clause-open
commit_at-requires-clause-open c =
    let old : At = record { world = world_of c.self.inside.state; n = c.self.inside.n } in
    (given-usable old c.args.ticket.life c.args.ticket.csn (subst (λ (a : At). IsGiven a c.args.ticket.life c.args.ticket.csn) (sym c.self.view_is) (record { opened = c.requires.open; uncommitted = c.requires.uncommitted }))).is_pending

pub commit_at-requires-clause-uncommitted : goal.commit_at-requires-clause-uncommitted
commit_at-requires-clause-uncommitted c =
    let old : At = record { world = world_of c.self.inside.state; n = c.self.inside.n } in
    (given-usable old c.args.ticket.life c.args.ticket.csn (subst (λ (a : At). IsGiven a c.args.ticket.life c.args.ticket.csn) (sym c.self.view_is) (record { opened = c.requires.open; uncommitted = c.requires.uncommitted }))).uncommitted

pub invariant_of-self : goal.invariant_of-self
invariant_of-self c =
    let w = world_of c.self.inside.state in
    let ns = c.commit_at.new.nodes.items in
    let others = c.commit_at.ensures.others in (
      commit-kept w (record w { nodes = ns }) c.self.inside.n c.args.ticket c.args.request.now c.args.bound c.args.now c.commit_at.result (node_of ns c.self.inside.n) c.self.invariant.0 c.self.invariant.1 (given-usable (record { world = w; n = c.self.inside.n }) c.args.ticket.life c.args.ticket.csn (subst (λ (a : At). IsGiven a c.args.ticket.life c.args.ticket.csn) (sym c.self.view_is) (record { opened = c.requires.open; uncommitted = c.requires.uncommitted }))) c.commit_at.ensures.keeper c.commit_at.ensures.step (ap (λ xs. record w { nodes = xs }) others),
      subst (λ list. IsNode list c.self.inside.n) (sym others) (with-IsNode w.nodes c.self.inside.n c.self.inside.n (node_of ns c.self.inside.n) c.self.invariant.1),
    )

pub returns-clause-call : goal.returns-clause-call
returns-clause-call c =
    let old : At = record { world = world_of c.self.inside.state; n = c.self.inside.n } in
    let new : At = record { world = record (world_of c.self.inside.state) { nodes = c.commit_at.new.nodes.items }; n = c.self.inside.n } in
    subst (λ (a : At). IsCall at_reach a new) c.self.view_is (call-of old new (beside-of old.world old.n c.commit_at.new.nodes.items c.commit_at.ensures.others))

pub returns-clause-step : goal.returns-clause-step
returns-clause-step c =
    let old : At = record { world = world_of c.self.inside.state; n = c.self.inside.n } in
    let new : At = record { world = record (world_of c.self.inside.state) { nodes = c.commit_at.new.nodes.items }; n = c.self.inside.n } in
    subst (λ (a : At). Commits judge_view (reached a) c.args.ticket c.args.request.now c.args.bound c.args.now c.commit_at.result (reached new)) c.self.view_is c.commit_at.ensures.step

pub returns-clause-open : goal.returns-clause-open
returns-clause-open c =
    let old : At = record { world = world_of c.self.inside.state; n = c.self.inside.n } in
    let new : At = record { world = record (world_of c.self.inside.state) { nodes = c.commit_at.new.nodes.items }; n = c.self.inside.n } in
    subst (λ (a : At). IsMoved (IsOpenAt a) (IsOpenAt new) c.args.ticket.csn (csn_left c.commit_at.result)) c.self.view_is
    (commit-open_at old new c.args.ticket c.args.request.now c.args.bound c.args.now c.commit_at.result c.self.invariant.0 c.self.invariant.1 (subst (λ (a : At). IsGiven a c.args.ticket.life c.args.ticket.csn) (sym c.self.view_is) (record { opened = c.requires.open; uncommitted = c.requires.uncommitted })) c.commit_at.ensures.keeper (beside-of old.world old.n c.commit_at.new.nodes.items c.commit_at.ensures.others) c.commit_at.ensures.step)

pub returns-clause-committed : goal.returns-clause-committed
returns-clause-committed c =
    let old : At = record { world = world_of c.self.inside.state; n = c.self.inside.n } in
    let new : At = record { world = record (world_of c.self.inside.state) { nodes = c.commit_at.new.nodes.items }; n = c.self.inside.n } in
    subst (λ (a : At). MatchResult c.commit_at.result (λ (r : Receipt). IsAdded (IsCommittedAt a) (IsCommittedAt new) r.csn) (λ _. AreSame (IsCommittedAt a) (IsCommittedAt new))) c.self.view_is
    (commit-committed_at old new c.args.ticket c.args.request.now c.args.bound c.args.now c.commit_at.result c.self.invariant.0 c.self.invariant.1 (subst (λ (a : At). IsGiven a c.args.ticket.life c.args.ticket.csn) (sym c.self.view_is) (record { opened = c.requires.open; uncommitted = c.requires.uncommitted })) c.commit_at.ensures.keeper (beside-of old.world old.n c.commit_at.new.nodes.items c.commit_at.ensures.others) c.commit_at.ensures.step)

pub returns-clause-uncommitted : goal.returns-clause-uncommitted
returns-clause-uncommitted c =
    let old : At = record { world = world_of c.self.inside.state; n = c.self.inside.n } in
    let new : At = record { world = record (world_of c.self.inside.state) { nodes = c.commit_at.new.nodes.items }; n = c.self.inside.n } in
    subst (λ (a : At). c.args.ticket.life ≡ (reached a).life → MatchResult c.commit_at.result (λ _. Unit {0}) (λ (back : Ticket × CommitFault). IsCommittedAt new back.0.csn → ⊥)) c.self.view_is
    (commit-uncommitted_at old new c.args.ticket c.args.request.now c.args.bound c.args.now c.commit_at.result c.self.invariant.0 c.self.invariant.1 (subst (λ (a : At). IsGiven a c.args.ticket.life c.args.ticket.csn) (sym c.self.view_is) (record { opened = c.requires.open; uncommitted = c.requires.uncommitted })) c.commit_at.ensures.keeper (beside-of old.world old.n c.commit_at.new.nodes.items c.commit_at.ensures.others) c.commit_at.ensures.step)
