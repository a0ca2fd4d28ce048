-- WHAT A VIEW LENDS of an entry: what can be looked at without a copy.
use Rattle.std.specs.Prelude.{List, map, Option, option_map}
use Rattle.repl_data.specs.declared.csn.Uid.{Uid}
use Rattle.repl_data.specs.declared.change.Shown.{Shown}
use Rattle.repl_data.specs.declared.view.Standing.{Standing}
use Rattle.repl_data.specs.View.{DirectoryView, PresentEntry, Tombstone, present_at, gone_at, user, lost_name}

-- ---- of a present entry

-- its user attributes that show, without what the view derives
abbrev pub own_of : DirectoryView → Uid → Option (List Shown)
own_of v u = option_map (λ (e : PresentEntry). map user e.attrs) (present_at v u)

-- whether it is glue, and whether it lost its name
abbrev pub standing : PresentEntry → Standing
standing e = record { glue = e.is_glue; lost = lost_name e }

abbrev pub standing_of : DirectoryView → Uid → Option Standing
standing_of v u = option_map standing (present_at v u)

-- ---- of a tombstone

-- its user attributes that show, without what the view derives
abbrev pub tombstone_own_of : DirectoryView → Uid → Option (List Shown)
tombstone_own_of v u = option_map (λ (e : Tombstone). map user e.attrs) (gone_at v u)

-- the parent that it had
abbrev pub tombstone_parent_of : DirectoryView → Uid → Option Uid
tombstone_parent_of v u = option_map (λ (e : Tombstone). e.parent) (gone_at v u)
