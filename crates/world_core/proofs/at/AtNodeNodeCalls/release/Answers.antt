use Rattle.std.proofs.Common.{◌≡◌, sym, ap, subst}
use Rattle.node_core.specs.Steps.{released}
use Rattle.node_core.specs.Calls.{IsCall, AreSame}
use Rattle.world_core.specs.Laws.{IsNode}
use Rattle.world_core.specs.At.{At, reached, at_reach, IsOpenAt, IsCommittedAt}
use Rattle.world_core.specs.State.{world_of}
use Rattle.world_core.specs.World.{node_of}
use Rattle.world_core.proofs.Honest.{with-IsNode}
use Rattle.world_core.proofs.CallsKept.{release-kept, put-there}
use Rattle.world_core.proofs.AtCalls.{beside-of, others-of, call-of, idle-same, release-idle}
use Rattle.world_core.proofs.at.AtNodeNodeCalls.release.Goals as goal

pub invariant_of-self : goal.invariant_of-self
invariant_of-self c =
    let w = world_of c.self.inside.state in
    let ns = c.release_at.new.nodes.items in
    let others = others-of c.self.inside.state.nodes.items c.release_at.new.nodes.items c.self.inside.n (released (node_of c.self.inside.state.nodes.items c.self.inside.n) c.args.rid) c.self.invariant.1 c.release_at.ensures in (
      release-kept w (record w { nodes = ns }) c.self.inside.n c.args.rid (node_of ns c.self.inside.n) c.self.invariant.0 c.self.invariant.1 (put-there w ns c.self.inside.n _ c.self.invariant.1 c.release_at.ensures) (ap (λ xs. record w { nodes = xs }) others),
      subst (λ list. IsNode list c.self.inside.n) (sym others) (with-IsNode w.nodes c.self.inside.n c.self.inside.n (node_of ns c.self.inside.n) c.self.invariant.1),
    )

pub returns-clause-call : goal.returns-clause-call
returns-clause-call c =
    let old : At = record { world = world_of c.self.inside.state; n = c.self.inside.n } in
    let new : At = record { world = record (world_of c.self.inside.state) { nodes = c.release_at.new.nodes.items }; n = c.self.inside.n } in
    subst (λ (a : At). IsCall at_reach a new) c.self.view_is (call-of old new (beside-of old.world old.n c.release_at.new.nodes.items (others-of c.self.inside.state.nodes.items c.release_at.new.nodes.items c.self.inside.n (released (node_of c.self.inside.state.nodes.items c.self.inside.n) c.args.rid) c.self.invariant.1 c.release_at.ensures)))

pub returns-clause-step : goal.returns-clause-step
returns-clause-step c =
    let old : At = record { world = world_of c.self.inside.state; n = c.self.inside.n } in
    let new : At = record { world = record (world_of c.self.inside.state) { nodes = c.release_at.new.nodes.items }; n = c.self.inside.n } in
    subst (λ (a : At). reached new ≡ released (reached a) c.args.rid) c.self.view_is (put-there old.world c.release_at.new.nodes.items old.n _ c.self.invariant.1 c.release_at.ensures)

pub returns-clause-open : goal.returns-clause-open
returns-clause-open c =
    let old : At = record { world = world_of c.self.inside.state; n = c.self.inside.n } in
    let new : At = record { world = record (world_of c.self.inside.state) { nodes = c.release_at.new.nodes.items }; n = c.self.inside.n } in
    subst (λ (a : At). AreSame (IsOpenAt a) (IsOpenAt new)) c.self.view_is
    (idle-same old new (beside-of old.world old.n c.release_at.new.nodes.items (others-of c.self.inside.state.nodes.items c.release_at.new.nodes.items c.self.inside.n (released (node_of c.self.inside.state.nodes.items c.self.inside.n) c.args.rid) c.self.invariant.1 c.release_at.ensures)) (release-idle (reached old) (reached new) c.args.rid (put-there old.world c.release_at.new.nodes.items old.n _ c.self.invariant.1 c.release_at.ensures))).0

pub returns-clause-committed : goal.returns-clause-committed
returns-clause-committed c =
    let old : At = record { world = world_of c.self.inside.state; n = c.self.inside.n } in
    let new : At = record { world = record (world_of c.self.inside.state) { nodes = c.release_at.new.nodes.items }; n = c.self.inside.n } in
    subst (λ (a : At). AreSame (IsCommittedAt a) (IsCommittedAt new)) c.self.view_is
    (idle-same old new (beside-of old.world old.n c.release_at.new.nodes.items (others-of c.self.inside.state.nodes.items c.release_at.new.nodes.items c.self.inside.n (released (node_of c.self.inside.state.nodes.items c.self.inside.n) c.args.rid) c.self.invariant.1 c.release_at.ensures)) (release-idle (reached old) (reached new) c.args.rid (put-there old.world c.release_at.new.nodes.items old.n _ c.self.invariant.1 c.release_at.ensures))).1
