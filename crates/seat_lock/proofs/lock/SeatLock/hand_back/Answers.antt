use Rattle.std.proofs.Common.{rules}
use Rattle.seat_lock.proofs.Seats.{passes_as, least_after, row_after}
use Rattle.seat_lock.proofs.lock.SeatLock.hand_back.Goals as goal

pub fetch_add-served-requires : goal.fetch_add-served-requires
fetch_add-served-requires g c =
    let old = c.args.seat.now in (
      search rules,
      search rules,
      passes_as _ _ _ _ _ old.number old.place.me _ c.args.value _ c.requires.turn.0 c.requires.turn.1 c.exchange-left.ensures.3 c.requires.history.0 c.requires.history.1 c.requires.history.2 old.least c.requires.fixed,
    )

pub invariant_of-seat : goal.invariant_of-seat
invariant_of-seat g c =
    let old = c.args.seat.now in
    record {
      least = least_after _ g.T.HasHistory.number g.T.HasHistory.fixed old.number old.place.me _ _ c.args.value c.requires.turn.1 c.exchange-left.ensures.3 c.fetch_add-served.ensures.2 old.least;
      row = row_after _ g.T.HasHistory.number g.T.HasHistory.fixed old.number old.count old.place.me _ _ c.args.value c.requires.turn.1 c.exchange-left.ensures.3 c.fetch_add-served.ensures.2 old.row;
    }
