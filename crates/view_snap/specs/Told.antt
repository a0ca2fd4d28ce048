-- WHAT IS KEPT OF AN ENTRY, present or a tombstone, and the view that is made of what is kept of all.
use Rattle.std.specs.Prelude.{ℕ, Bool, false, not, is_some, List, [], ◌∷◌, map, flat_map, Option, Some, None, option_map, if◌then◌else◌}
use Rattle.std.specs.Option.{option_to_list}
use Rattle.repl_data.specs.declared.csn.Uid.{Uid}
use Rattle.repl_data.specs.declared.change.Rdn.{Rdn}
use Rattle.repl_data.specs.declared.change.Attr.{Attr}
use Rattle.repl_data.specs.declared.view.Standing.{Standing}
use Rattle.repl_data.specs.Order.{same_rdn}
use Rattle.repl_data.specs.View.{DirectoryView, PresentEntry, Tombstone}
use Rattle.urp_tree.specs.declared.changed.Changed.{Changed}
use Rattle.urp_tree.specs.Moves.{kept}

-- the parent, the name, the RDN that shows where the entry is present, and the values
pub record Told : Type 0 where
  pub parent : Uid
  pub name : Rdn
  pub shown : Option Rdn
  pub glue : Bool
  pub attrs : List Attr

-- an entry as a plan tells it
abbrev pub told_of : Changed → Told
told_of c = record { parent = c.parent; name = c.name; shown = c.after; glue = c.glue; attrs = map kept c.attrs }

-- another entry has the name
abbrev pub is_lost : Rdn → Option Rdn → Bool
is_lost name None = false
is_lost name (Some shown) = not (same_rdn name shown)

-- how a present entry stands to the others
abbrev pub standing_with : Told → Standing
standing_with t = record { glue = t.glue; lost = is_lost t.name t.shown }

-- what is kept, where the entry is present, and where it is a tombstone
abbrev pub present_only : Option Told → Option Told
present_only None = None
present_only (Some t) = if is_some t.shown then Some t else None

abbrev pub gone_only : Option Told → Option Told
gone_only None = None
gone_only (Some t) = if is_some t.shown then None else Some t

-- the entry as a view has it: among the present ones, or as a tombstone
abbrev pub present_with : Uid → Told → Rdn → PresentEntry
present_with u t rdn = record { id = u; parent = t.parent; name = t.name; shown = rdn; is_glue = t.glue; attrs = t.attrs }

abbrev pub present_in : Uid → Told → Option PresentEntry
present_in u t = option_map (present_with u t) t.shown

abbrev pub gone_in : Uid → Told → Option Tombstone
gone_in u t = if is_some t.shown then None else Some (record { id = u; parent = t.parent; name = t.name; attrs = t.attrs })

-- rows by id, and the view that they make
abbrev pub present_row : Uid × Told → List PresentEntry
present_row r = option_to_list (present_in r.0 r.1)

abbrev pub gone_row : Uid × Told → List Tombstone
gone_row r = option_to_list (gone_in r.0 r.1)

abbrev pub view_of_rows : List ℕ → List (Uid × Told) → DirectoryView
view_of_rows suffix rows = record { suffix = suffix; present = flat_map present_row rows; gone = flat_map gone_row rows }

-- a snapshot: its number, and the view that it shows
pub record Shot : Type 0 where
  pub number : ℕ
  pub view : DirectoryView

-- the id of a tombstone
abbrev pub gone_ids : Uid × Told → List Uid
gone_ids r = if is_some r.1.shown then [] else r.0 ∷ []
