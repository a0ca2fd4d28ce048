-- A node of a world, as the calls of a node reach it.
use Rattle.std.specs.Prelude.{◌≡◌, ℕ}
use Rattle.repl_data.specs.declared.csn.Csn.{Csn}
use Rattle.node_core.specs.Node.{Node}
use Rattle.node_core.specs.Searches.{sight_of}
use Rattle.node_core.specs.Calls.{Reach, IsPending, IsPendingTaken}
use Rattle.world_core.specs.World.{World, node_in, put}
use Rattle.world_core.specs.Laws.{IsNoTicket}

pub record At : Type 0 where
  pub world : World
  pub n : ℕ

abbrev pub reached : At → Node
reached a = node_in a.world a.n

-- all but the node is as it was
pub record IsBeside (old new : At) : Type 0 where
  pub same : new.n ≡ old.n
  pub world : new.world ≡ put old.world old.n (reached new)

-- how the node is reached: each call meets the node that the last one left, and its keeper never fails
abbrev pub at_reach : Reach At
at_reach = record { node = reached; met = λ old new. reached old; shown = λ old new. sight_of (reached old); follows = λ a left meets. meets ≡ left; keeps = IsBeside; faults = λ a. 0 }

-- a CSN of which this holds at the node, and that no ticket of the world at that node has, in the node's present life
pub record IsApart (holds : Node → Csn → Type 0) (a : At) (csn : Csn) : Type 0 where
  pub here : holds (reached a) csn
  pub no_ticket : IsNoTicket a.world a.n (reached a).life csn

-- the CSN of an open ticket that was drawn by a call, and of one that is committed besides
abbrev pub IsOpenAt : At → Csn → Type 0
IsOpenAt a csn = IsApart IsPending a csn

abbrev pub IsCommittedAt : At → Csn → Type 0
IsCommittedAt a csn = IsApart IsPendingTaken a csn
