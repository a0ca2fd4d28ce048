-- The state of a script: a world, the connections to its nodes, and who waits for the answer to a ticket.
use Rattle.std.specs.Prelude.{ℕ, ◌+◌, ◌-◌, Bool, true, false, not, ◌==◌, List, [], ◌∷◌, filter, find, codes, replicate, slice_index_or, slice_set, Option}
use Rattle.repl_data.specs.declared.change.Suffix.{Suffix}
use Rattle.world_core.specs.World.{new_world}
use Rattle.dir_top.specs.Client.{new_client, has_part}
use Rattle.dir_top.specs.declared.state.Connection.{Connection}
use Rattle.dir_top.specs.declared.state.Connection.TheVariants.{Closed, Open}
use Rattle.dir_top.specs.declared.state.Owed.{Owed}
use Rattle.dir_top.specs.declared.state.State.{State}

-- the suffix of all nodes of a script
unfoldable pub script_suffix : Suffix
script_suffix = record {
  name = codes "dc=example";
  rdn = record { avas = (record { attr = record { name = codes "dc" }; val = record { key = codes "example"; spelled = codes "example" } }) ∷ [] };
}

-- after `nodes n`
abbrev pub new_state : ℕ → State
new_state n = record { world = new_world script_suffix n; connections = replicate 64 Closed; opened = 0; owed = [] }

-- ---- connections

-- connection c stands at place c - 1
abbrev pub connection_in : State → ℕ → Connection
connection_in s c = slice_index_or s.connections (c - 1) Closed

abbrev pub with_connection : State → ℕ → Connection → State
with_connection s c connection = record s { connections = slice_set s.connections (c - 1) connection }

abbrev pub is_open : Connection → Bool
is_open Closed = false
is_open (Open node instance client) = true

-- a new connection to node n: nothing has come on it
abbrev pub opened : State → ℕ → ℕ → State
opened s c n = record (with_connection s c (Open n s.opened new_client)) { opened = s.opened + 1 }

-- it holds a part of a message
abbrev pub holds_part : Connection → Bool
holds_part Closed = false
holds_part (Open node instance client) = has_part client

-- ---- tickets that a client waits for

abbrev pub owed_for : State → ℕ → Option Owed
owed_for s k = find (λ (o : Owed). o.ticket == k) s.owed

abbrev pub without_owed : ℕ → List Owed → List Owed
without_owed k owed = filter (λ (o : Owed). not (o.ticket == k)) owed

-- the connection is still the one on which the ticket was begun
abbrev pub is_same_connection : ℕ → Connection → Bool
is_same_connection instance Closed = false
is_same_connection instance (Open node now client) = now == instance

abbrev pub still_waits : State → Owed → Bool
still_waits s o = is_same_connection o.instance (connection_in s o.connection)
