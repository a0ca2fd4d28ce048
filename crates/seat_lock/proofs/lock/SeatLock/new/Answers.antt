use Rattle.std.proofs.Common.{rules}
use Rattle.seat_lock.proofs.Seats.{starts_as, first_seat}
use Rattle.seat_lock.proofs.lock.SeatLock.new.Goals as goal

pub new-requires : goal.new-requires
new-requires g c = starts_as _ _ _ _ c.args.value _ _ (search rules) c.of.ensures (search rules) c.requires.blank

pub invariant_of-seat : goal.invariant_of-seat
invariant_of-seat g c =
    let first = first_seat g.T.HasHistory.history g.T.HasHistory.number g.T.HasHistory.fixed c.args.seats _ c.in-Ok-new.place.me c.in-Ok-new.ensures.ok.4 c.requires.some_seat (search rules) in
    record { least = first.0; row = λ alone. first.1 }
