-- THE MAPS of a snapshot: what is kept of each entry by its id, and the children of each entry in the order of the
-- names that they show.
use Rattle.std.specs.Prelude.{◌≡◌, Bool, false, List, [], ◌∷◌, Option, Some, None, is_some, option_map, if◌then◌else◌}
use Rattle.std.specs.Ordering.{is_eq, is_lt, ordering_then}
use Rattle.std.specs.declared.cmp.Ordering.{Ordering}
use Rattle.repl_data.specs.declared.csn.Uid.{Uid}
use Rattle.repl_data.specs.declared.change.Rdn.{Rdn}
use Rattle.repl_data.specs.Order.{uid_cmp, uid_eq, suffix_id, rdn_key, rdn_key_cmp}
use Rattle.cow_map.specs.Rows.{IsRising, value_at}
use Rattle.urp_tree.specs.declared.changed.Changed.{Changed}
use Rattle.view_snap.specs.declared.spot.Spot.{Spot}
use Rattle.view_snap.specs.declared.maps.Maps.{Maps}
use Rattle.view_snap.specs.Told.{Told, told_of}

-- a child stands by its parent, the name that it shows, and its id
abbrev pub spot_cmp : Spot → Spot → Ordering
spot_cmp a b = ordering_then (uid_cmp a.parent b.parent) (ordering_then (rdn_key_cmp (rdn_key a.shown) (rdn_key b.shown)) (uid_cmp a.id b.id))

-- what is kept under an id
abbrev pub told_at : List (Uid × Told) → Uid → Option Told
told_at rows u = value_at uid_cmp rows u

-- where an entry stands: the suffix entry and tombstones nowhere
abbrev pub spot_with : Uid → Told → Rdn → Spot
spot_with u t rdn = record { parent = t.parent; shown = rdn; id = u }

abbrev pub spot_of : Uid → Told → Option Spot
spot_of u t = if uid_eq u suffix_id then None else option_map (spot_with u t) t.shown

abbrev pub spot_in : Uid → Option Told → Option Spot
spot_in u None = None
spot_in u (Some t) = spot_of u t

abbrev pub is_spot : Option Spot → Spot → Bool
is_spot None q = false
is_spot (Some k) q = is_eq (spot_cmp k q)

-- whether a child stands there
abbrev pub has_spot : List (Spot × Unit {0}) → Spot → Bool
has_spot below q = is_some (value_at spot_cmp below q)

-- rows rise, and exactly the present entries but the suffix entry stand below their parents
pub record AreMaps (m : Maps) : Type 0 where
  pub entries : IsRising uid_cmp m.entries
  pub below : IsRising spot_cmp m.below
  pub spots : (q : Spot) → has_spot m.below q ≡ is_spot (spot_in q.id (told_at m.entries q.id)) q

-- what is kept under an id after entries are put, one after the other
abbrev pub told_after : List Changed → Option Told → Uid → Option Told
told_after [] o u = o
told_after (c ∷ cs) o u = told_after cs (if uid_eq c.id u then Some (told_of c) else o) u

-- on the way up from an entry: its parent, if that is below it, and else the end
abbrev pub above : Uid → Uid → Uid
above parent u = if is_lt (uid_cmp parent u) then parent else suffix_id
