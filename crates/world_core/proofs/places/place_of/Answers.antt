use Rattle.world_core.proofs.Finding.{finds}
use Rattle.world_core.proofs.TicketPlaces.{is_number}
use Rattle.world_core.proofs.places.place_of.Goals as goal

pub returns : goal.returns
returns c = record { place = c.first_of.ensures; found = finds (is_number c.args.k) c.args.tickets.now c.first_of.result c.first_of.ensures }
