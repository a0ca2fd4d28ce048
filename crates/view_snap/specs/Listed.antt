-- THOSE BELOW AN ENTRY, among spots in rising order.
use Rattle.std.specs.Prelude.{Bool, ◌&&◌, List, filter, Option, option_map, find}
use Rattle.repl_data.specs.declared.csn.Uid.{Uid}
use Rattle.repl_data.specs.declared.change.Rdn.{Rdn}
use Rattle.repl_data.specs.Order.{uid_eq, same_rdn}
use Rattle.view_snap.specs.declared.spot.Spot.{Spot}

abbrev pub is_below : Uid → Spot → Bool
is_below parent k = uid_eq k.parent parent

abbrev pub is_named : Uid → Rdn → Spot → Bool
is_named parent rdn k = is_below parent k && same_rdn k.shown rdn

-- the first one that shows the name
abbrev pub first_named : Uid → Rdn → List Spot → Option Uid
first_named parent rdn ks = option_map (λ (k : Spot). k.id) (find (is_named parent rdn) ks)
