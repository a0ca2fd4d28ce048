-- What the type of a world keeps.
use Rattle.std.specs.Prelude.{◌≡◌, true, List, Contains}
use Rattle.change_log.specs.Log.{csns_of}
use Rattle.node_core.specs.Node.{Node}
use Rattle.node_core.specs.Steps.{judge_view}
use Rattle.world_core.specs.World.{World, Ticket, node_of}
use Rattle.world_core.specs.Laws.{HasRun, IsLawful}

-- the change of each committed ticket is taken at its node
abbrev pub AreTaken : List Node → List Ticket → Type 0
AreTaken nodes tickets = (t : Ticket) → Contains tickets t → t.committed ≡ true → Contains (csns_of (node_of nodes t.node).taken) t.csn

-- The world came from a new one by deeds that are allowed, judged by the refusal table of LDAP; and it is lawful, as each such
-- world is.
pub record IsKept (w : World) : Type 0 where
  pub came : HasRun judge_view w
  pub lawful : IsLawful w
  pub taken : AreTaken w.nodes w.tickets
