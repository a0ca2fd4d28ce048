-- What one deed keeps.
use Rattle.node_core.specs.Steps.{Judge}
use Rattle.world_core.specs.World.{World, Deed, after}
use Rattle.world_core.specs.Laws.{IsLawful, IsHonest, May, IsHonestDeed}
use Rattle.world_core.proofs.Events.{IsReady, after-advances}
use Rattle.world_core.proofs.TicketEvents.{after-tickets}

pub ready : (w : World) → IsLawful w → IsReady w
ready w l = record { sound = l.sound; fits = l.offered }

pub after-lawful : (judge : Judge) (w : World) (d : Deed) → IsLawful w → May w d → IsLawful (after judge w d)
after-lawful judge w d l m =
    let a = after-advances judge w d (ready w l) l.tickets m in
    record { sound = a.sound; tickets = after-tickets judge w d (ready w l) m l.tickets; offered = a.fits }

pub after-honest : (judge : Judge) (w : World) (d : Deed) → IsHonest w → IsLawful w → May w d → IsHonestDeed w d → IsHonest (after judge w d)
after-honest judge w d k l m h = (after-advances judge w d (ready w l) l.tickets m).honest h k
