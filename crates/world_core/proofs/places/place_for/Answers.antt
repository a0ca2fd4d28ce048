use Rattle.std.proofs.Common.{rules, ◌∙◌, sym}
use Rattle.world_core.proofs.Finding.{position_some, position_none, position_or_len-le}
use Rattle.world_core.proofs.TicketPlaces.{is_from}
use Rattle.world_core.proofs.places.place_for.Goals as goal

pub returns-in-Some : goal.returns-in-Some
returns-in-Some c =
    let at = sym (position_some (is_from c.args.k) c.args.tickets.now c.in-Some.at (sym c.first_from.ensures ∙ c.in-Some.is)).0 in
    record { within = rw at (position_or_len-le (is_from c.args.k) c.args.tickets.now); place = at }

pub returns-in-None : goal.returns-in-None
returns-in-None c =
    let at = sym (position_none (is_from c.args.k) c.args.tickets.now (sym c.first_from.ensures ∙ c.in-None.is)) in
    record { within = search rules; place = at }
