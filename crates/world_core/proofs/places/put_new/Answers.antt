use Rattle.world_core.proofs.TicketPlaces.{put_new}
use Rattle.world_core.proofs.places.put_new.Goals as goal

pub returns : goal.returns
returns c =
    rw (c.insert.ensures.items, c.unwrap.ensures, c.place_for-at.ensures.place, c.number.ensures, c.as_slice.ensures.value)
    (put_new c.args.held c.args.tickets.now.items c.requires.new)
