use Rattle.std.proofs.Common.{rules, arith}
use Rattle.seat_lock.proofs.Seats.{drawing, times_few, took, least_taken, row_taken}
use Rattle.seat_lock.proofs.lock.SeatLock.turn.Goals as goal

pub fetch_add-turn-requires : goal.fetch_add-turn-requires
fetch_add-turn-requires g c =
    let old = c.args.seat.now in
    let least = old.least.0 in
    let few = times_few old.number old.place.me.0.numbers in
    (search rules, search rules, drawing _ _ _ _ _ _ _ c.requires.idle.0 (omega arith))

pub exchange-requires : goal.exchange-requires
exchange-requires g c = (search rules, (_, took _ _ g.T.HasHistory.fixed _ _ c.wait.ensures.gained.0))

pub invariant_of-seat : goal.invariant_of-seat
invariant_of-seat g c =
    let old = c.args.seat.now in
    record {
      least = least_taken _ g.T.HasHistory.number g.T.HasHistory.fixed old.number _ old.place.me _ _ _ _ c.fetch_add-turn.ensures.2.1 c.wait.ensures.gained.0 c.exchange.ensures.3 old.least;
      row = row_taken _ g.T.HasHistory.number g.T.HasHistory.fixed old.number old.count _ old.place.me _ _ _ _ c.fetch_add-turn.ensures.2.1 c.wait.ensures.gained.0 c.exchange.ensures.3 old.row;
    }
