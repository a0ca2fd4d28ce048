use Rattle.std.proofs.Common.{◌∙◌, sym, ap}
use Rattle.world_core.specs.declared.event.Happened.TheVariants as what
use Rattle.std.proofs.Common.{find}
use Rattle.world_core.specs.World.{end_ticket}
use Rattle.world_core.proofs.TicketPlaces.{is_number}
use Rattle.world_core.specs.State.{world_of}
use Rattle.world_core.proofs.state.WorldState.settle.Goals as goal

pub returns-in-Some : goal.returns-in-Some
returns-in-Some c = c.end_place-trouble.ensures.step (λ x. what.Settled)

pub returns-in-None : goal.returns-in-None
returns-in-None c =
    ap (λ o. end_ticket (world_of c.args.self.now) (λ t. what.Settled) o)
    (ap (λ ts. find (is_number c.args.k) ts) (sym c.as_slice.ensures.value) ∙ c.in-None.ensures.found)
