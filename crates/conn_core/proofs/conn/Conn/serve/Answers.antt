use Rattle.std.proofs.Common.{◌∙◌, drop, arith, length-drop}
use Rattle.conn_core.specs.Feeding.{session, none_missing, some_missing}
use Rattle.conn_core.proofs.Streams.{is_next, none_behind}
use Rattle.conn_core.proofs.Carrying.{carries_none, carried_on, further, begins_one, still_more}
use Rattle.conn_core.proofs.Tickets.{same_twice}
use Rattle.conn_core.proofs.conn.Conn.serve.Goals as goal

pub returns-in_default-clause-cut : goal.returns-in_default-clause-cut
returns-in_default-clause-cut g c =
    none_missing (drop c.loop-at.at c.args.stream.now)
    (c.loop-at.invariant.carried (drop c.loop-at.at c.args.stream.now) (session c.loop-at.self c.loop-at.node) (carries_none _ c.args.now (drop c.loop-at.at c.args.stream.now) (session c.loop-at.self c.loop-at.node)))

pub returns-in-Err-clause-cut : goal.returns-in-Err-clause-cut
returns-in-Err-clause-cut g c =
    let k = is_next c.loop-at.at c.args.stream.now c.in-Ok.first c.in-Next.request c.in-Next.size c.in-Next.is c.in-Ok.ensures in
    let s = c.in-Err.ensures.served in
    some_missing (drop c.loop-at.at c.args.stream.now) (drop c.in-Next.size (drop c.loop-at.at c.args.stream.now)) c.in-Next.request (session c.loop-at.self c.loop-at.node) s.0
    (c.loop-at.invariant.carried (drop c.loop-at.at c.args.stream.now) (session c.loop-at.self c.loop-at.node) (carries_none _ c.args.now (drop c.loop-at.at c.args.stream.now) (session c.loop-at.self c.loop-at.node)))
    (begins_one (drop c.loop-at.at c.args.stream.now) c.in-Next.request c.in-Next.size k.0 k.1)
    s.1 s.2

pub loop-at-preserved : goal.loop-at-preserved
loop-at-preserved g c =
    let k = is_next c.loop-at.at c.args.stream.now c.in-Ok.first c.in-Next.request c.in-Next.size c.in-Next.is c.in-Ok.ensures in
    let s = c.in_default-carry_out.ensures.served in
    let fits = k.3 in
    let below = c.loop-at.invariant.within in
    record {
      within = omega (arith, fits, below, length-drop c.loop-at.at c.args.stream.now);
      waiting = still_more c.args.self.now.replies c.loop-at.self.replies c.carry_out.new.self.replies c.loop-at.invariant.waiting c.in_default-carry_out.ensures.waiting;
      held = c.in_default-carry_out.ensures.held ∙ c.loop-at.invariant.held;
      closed = c.in_default-carry_out.ensures.closed ∙ c.loop-at.invariant.closed;
      open_tickets = same_twice (g.N.NodeCalls.is_open c.args.node.now) (g.N.NodeCalls.is_open c.loop-at.node) (g.N.NodeCalls.is_open c.carry_out.new.node) c.loop-at.invariant.open_tickets c.in_default-carry_out.ensures.open;
      committed = same_twice (g.N.NodeCalls.is_committed c.args.node.now) (g.N.NodeCalls.is_committed c.loop-at.node) (g.N.NodeCalls.is_committed c.carry_out.new.node) c.loop-at.invariant.committed c.in_default-carry_out.ensures.committed;
      life = c.in_default-carry_out.ensures.life ∙ c.loop-at.invariant.life;
      carried = λ left t rest. c.loop-at.invariant.carried left t
          (carried_on _ c.args.now (drop c.loop-at.at c.args.stream.now) c.in-Next.request c.in-Next.size (session c.loop-at.self c.loop-at.node) s.0 (session c.carry_out.new.self c.carry_out.new.node) k.0 k.1 s.1 s.2 left t
          (further _ c.args.now c.args.stream.now c.loop-at.at c.in-Next.size (session c.carry_out.new.self c.carry_out.new.node) left t rest));
    }

pub returns-clause-served : goal.returns-clause-served
returns-clause-served g c = (
  c.loop-at.invariant.carried (drop c.loop-at.at c.args.stream.now) (session c.loop-at.self c.loop-at.node) (carries_none _ c.args.now (drop c.loop-at.at c.args.stream.now) (session c.loop-at.self c.loop-at.node)),
  none_behind c.loop-at.at c.args.stream.now c.loop-at-test.false,
)

pub returns-in-Err-clause-waiting : goal.returns-in-Err-clause-waiting
returns-in-Err-clause-waiting g c = still_more c.args.self.now.replies c.loop-at.self.replies c.carry_out.new.self.replies c.loop-at.invariant.waiting c.in-Err.ensures.waiting
