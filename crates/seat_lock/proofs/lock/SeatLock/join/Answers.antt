use Rattle.std.proofs.Common.{rules, sym, ◌∙◌}
use Rattle.std.proofs.lemmas.Bool.{false≢true}
use mathlib.Core.Option.{none}
use Rattle.atomic_table.specs.Table.{step}
use Rattle.seat_lock.proofs.Seats.{some_in, joining, sees_as, joined_seen, joined_least, joined_now}
use Rattle.seat_lock.proofs.lock.SeatLock.join.Goals as goal

pub join_seat-requires : goal.join_seat-requires
join_seat-requires g c = (search rules, search rules, search rules, search rules, joining _ _ _ _ _ _ _ _ c.requires.idle.1.0 c.requires.idle.0.0 (some_in _ _ c.args.into.now.least.0))

pub load-requires : goal.load-requires
load-requires g c = (search rules, search rules, sees_as _ _ _ _ _ c.args.into.now.place.me c.args.seat.place.me _ _ c.requires.idle.1.0 c.join_seat.ensures.2)

pub invariant_of-into : goal.invariant_of-into
invariant_of-into g c = record {
  least = joined_least g.T.HasHistory.history g.T.HasHistory.number g.T.HasHistory.fixed _ _ _ 0 (step 0 0 0 0 none) c.args.into.now.place.me c.args.seat.place.me _ _ c.join_seat.ensures.2 c.load.ensures.2 c.args.into.now.least c.args.seat.least c.lesser-into.ensures.below c.lesser-into.ensures.one;
  row = λ alone. absurd (false≢true (sym alone ∙ joined_now g.T.HasHistory.history g.T.HasHistory.number g.T.HasHistory.fixed 0 (step 0 0 0 0 none) c.args.into.now.place.me c.args.seat.place.me _ _ c.join_seat.ensures.2 c.load.ensures.2));
}

pub returns-clause-this : goal.returns-clause-this
returns-clause-this g c = (joined_seen g.T.HasHistory.history g.T.HasHistory.number g.T.HasHistory.fixed 0 (step 0 0 0 0 none) c.args.into.now.place.me c.args.seat.place.me _ _ c.join_seat.ensures.2 c.load.ensures.2).0

pub returns-clause-that : goal.returns-clause-that
returns-clause-that g c = (joined_seen g.T.HasHistory.history g.T.HasHistory.number g.T.HasHistory.fixed 0 (step 0 0 0 0 none) c.args.into.now.place.me c.args.seat.place.me _ _ c.join_seat.ensures.2 c.load.ensures.2).1
