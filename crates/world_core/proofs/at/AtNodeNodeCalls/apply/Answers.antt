use Rattle.std.proofs.Common.{sym, ap, subst}
use Rattle.node_core.specs.Calls.{IsCall, AreSame}
use Rattle.world_core.specs.Laws.{IsNode}
use Rattle.world_core.specs.At.{At, at_reach, IsOpenAt, IsCommittedAt}
use Rattle.world_core.specs.State.{world_of}
use Rattle.world_core.specs.World.{node_of}
use Rattle.world_core.proofs.Honest.{with-IsNode}
use Rattle.world_core.proofs.CallsKept.{apply-kept}
use Rattle.world_core.proofs.AtCalls.{beside-of, call-of, apply-same_at}
use Rattle.world_core.proofs.at.AtNodeNodeCalls.apply.Goals as goal

pub invariant_of-self : goal.invariant_of-self
invariant_of-self c =
    let w = world_of c.self.inside.state in
    let ns = c.apply_at.new.nodes.items in
    let others = c.apply_at.ensures.others in (
      apply-kept w (record w { nodes = ns }) c.self.inside.n c.args.from c.args.update.now c.args.now c.apply_at.result (node_of ns c.self.inside.n) c.self.invariant.0 c.self.invariant.1 (record { seq = c.parts-parts.ensures.seq; rid = c.parts-parts.ensures.rid }) c.apply_at.ensures.step (ap (λ xs. record w { nodes = xs }) others),
      subst (λ list. IsNode list c.self.inside.n) (sym others) (with-IsNode w.nodes c.self.inside.n c.self.inside.n (node_of ns c.self.inside.n) c.self.invariant.1),
    )

pub returns-clause-call : goal.returns-clause-call
returns-clause-call c =
    let old : At = record { world = world_of c.self.inside.state; n = c.self.inside.n } in
    let new : At = record { world = record (world_of c.self.inside.state) { nodes = c.apply_at.new.nodes.items }; n = c.self.inside.n } in
    subst (λ (a : At). IsCall at_reach a new) c.self.view_is (call-of old new (beside-of old.world old.n c.apply_at.new.nodes.items c.apply_at.ensures.others))

pub returns-clause-open : goal.returns-clause-open
returns-clause-open c =
    let old : At = record { world = world_of c.self.inside.state; n = c.self.inside.n } in
    let new : At = record { world = record (world_of c.self.inside.state) { nodes = c.apply_at.new.nodes.items }; n = c.self.inside.n } in
    subst (λ (a : At). AreSame (IsOpenAt a) (IsOpenAt new)) c.self.view_is
    (apply-same_at old new c.args.from c.args.update.now c.args.now c.apply_at.result c.self.invariant.0 c.self.invariant.1 (beside-of old.world old.n c.apply_at.new.nodes.items c.apply_at.ensures.others) c.apply_at.ensures.step).0

pub returns-clause-committed : goal.returns-clause-committed
returns-clause-committed c =
    let old : At = record { world = world_of c.self.inside.state; n = c.self.inside.n } in
    let new : At = record { world = record (world_of c.self.inside.state) { nodes = c.apply_at.new.nodes.items }; n = c.self.inside.n } in
    subst (λ (a : At). AreSame (IsCommittedAt a) (IsCommittedAt new)) c.self.view_is
    (apply-same_at old new c.args.from c.args.update.now c.args.now c.apply_at.result c.self.invariant.0 c.self.invariant.1 (beside-of old.world old.n c.apply_at.new.nodes.items c.apply_at.ensures.others) c.apply_at.ensures.step).1
