use Rattle.std.proofs.Common.{rules, ◌≤◌, length, sym, subst}
use mathlib.Core.Option.{none}
use Rattle.atomic_table.specs.Table.{step}
use Rattle.seat_lock.proofs.Seats.{seeing, splitting, saw_idle, saw_numbers, row_seen, cut_seat, given_seat, cut_counted, own_cut}
use Rattle.seat_lock.proofs.lock.SeatLock.split.Goals as goal

pub load-requires : goal.load-requires
load-requires g c = (search rules, search rules, seeing _ _ _ _ _ _ _ c.requires.idle.0)

pub split_seat-place-requires : goal.split_seat-place-requires
split_seat-place-requires g c = (search rules, search rules, splitting _ _ _ _ _ _ (saw_idle g.T.HasHistory.history g.T.HasHistory.number g.T.HasHistory.fixed 0 (step 0 0 0 0 none) c.args.seat.now.place.me _ c.load.ensures.2 c.requires.idle.0))

pub invariant_of-seat : goal.invariant_of-seat
invariant_of-seat g c =
    let old = c.args.seat.now in
    let row = row_seen g.T.HasHistory.history g.T.HasHistory.number g.T.HasHistory.fixed old.number old.count 0 (step 0 0 0 0 none) old.place.me _ c.load.ensures.2 (old.row c.requires.plain) in
    let two = subst (λ ns. 2 ≤ length ns) (sym (saw_numbers g.T.HasHistory.history g.T.HasHistory.number g.T.HasHistory.fixed 0 (step 0 0 0 0 none) old.place.me _ c.load.ensures.2)) c.requires.two in
    let cut = cut_seat g.T.HasHistory.history g.T.HasHistory.number g.T.HasHistory.fixed old.number old.count c.load.new.seat.me _ c.split_seat-place.ensures.2 row two in
    record { least = cut.0; row = λ free. cut.1 }

pub invariant_of-result : goal.invariant_of-result
invariant_of-result g c =
    let old = c.args.seat.now in
    let row = row_seen g.T.HasHistory.history g.T.HasHistory.number g.T.HasHistory.fixed old.number old.count 0 (step 0 0 0 0 none) old.place.me _ c.load.ensures.2 (old.row c.requires.plain) in
    let two = subst (λ ns. 2 ≤ length ns) (sym (saw_numbers g.T.HasHistory.history g.T.HasHistory.number g.T.HasHistory.fixed 0 (step 0 0 0 0 none) old.place.me _ c.load.ensures.2)) c.requires.two in
    let given = given_seat g.T.HasHistory.history g.T.HasHistory.number g.T.HasHistory.fixed old.number old.count c.load.new.seat.me _ c.split_seat-place.ensures.4 row two in
    record { least = given.0; row = λ free. given.1 }

pub returns-clause-own : goal.returns-clause-own
returns-clause-own g c =
    let old = c.args.seat.now in
    own_cut g.T.HasHistory.history g.T.HasHistory.number g.T.HasHistory.fixed old.number old.count 0 (step 0 0 0 0 none) old.place.me _ _ _ c.load.ensures.2 c.split_seat-place.ensures.2 c.split_seat-place.ensures.4 c.requires.plain (old.row c.requires.plain) c.requires.two

pub returns-clause-counts : goal.returns-clause-counts
returns-clause-counts g c =
    cut_counted g.T.HasHistory.history g.T.HasHistory.number g.T.HasHistory.fixed 0 (step 0 0 0 0 none) c.args.seat.now.place.me _ _ _ c.load.ensures.2 c.split_seat-place.ensures.2 c.split_seat-place.ensures.4 c.requires.two
