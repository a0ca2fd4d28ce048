-- The world that the type of a world holds.
use Rattle.world_core.specs.declared.state.WorldState.{WorldState}
use Rattle.world_core.specs.World.{World}

abbrev pub world_of : WorldState → World
world_of s = record { nodes = s.nodes.items; clock = s.clock; tickets = s.tickets.items; sessions = s.sessions.items; offered = s.offered.items }
