use Rattle.std.proofs.Common.{sym, ◌∙◌}
use Rattle.seat_lock.proofs.Seats.{some_in, closing, closed, closed_own}
use Rattle.seat_lock.proofs.lock.SeatLock.close.Goals as goal

pub unreachable-requires : goal.unreachable-requires
unreachable-requires g c =
    let last = closing g.T.HasHistory.history g.T.HasHistory.number g.T.HasHistory.fixed _ _ _ _ _ _ c.close_with-closed.ensures.values.2 c.requires.idle.0 c.requires.all (some_in _ _ c.args.seat.least.0) c.take.ensures.value in
    c.in_default.not-Some last.0 last.1

pub returns-clause-history : goal.returns-clause-history
returns-clause-history g c = (closed g.T.HasHistory.history g.T.HasHistory.number g.T.HasHistory.fixed _ _ _ _ _ _ _ c.close_with-closed.ensures.values.2 c.requires.idle.0 c.requires.all (some_in _ _ c.args.seat.least.0) c.take.ensures.value c.in-Some.is).0

pub returns-clause-fixed : goal.returns-clause-fixed
returns-clause-fixed g c = (closed g.T.HasHistory.history g.T.HasHistory.number g.T.HasHistory.fixed _ _ _ _ _ _ _ c.close_with-closed.ensures.values.2 c.requires.idle.0 c.requires.all (some_in _ _ c.args.seat.least.0) c.take.ensures.value c.in-Some.is).1

pub returns-clause-own : goal.returns-clause-own
returns-clause-own g c =
    closed_own g.T.HasHistory.history g.T.HasHistory.number g.T.HasHistory.fixed _ _ _ _ _ c.close_with-closed.ensures.values.2 c.requires.all
    ∙ sym (closed g.T.HasHistory.history g.T.HasHistory.number g.T.HasHistory.fixed _ _ _ _ _ _ _ c.close_with-closed.ensures.values.2 c.requires.idle.0 c.requires.all (some_in _ _ c.args.seat.least.0) c.take.ensures.value c.in-Some.is).0
