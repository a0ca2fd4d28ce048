-- ENTRIES AS THEY SHOW, by what is kept of them.
use Rattle.std.specs.Prelude.{◌≡◌, ℕ, true, false, is_some, List, [], ◌∷◌, Option, Some, None, if◌then◌else◌}
use Rattle.repl_data.specs.declared.csn.Uid.{Uid}
use Rattle.repl_data.specs.declared.change.ShownEntry.{ShownEntry}
use Rattle.repl_data.specs.Order.{uid_eq, suffix_id}
use Rattle.repl_data.specs.View.{DirectoryView, path_of, dn_of, dn_below, shown_present, shown_gone, tombstone_rdn}
use Rattle.view_snap.specs.Told.{Told, is_lost}
use Rattle.view_snap.specs.Maps.{told_at}

-- under this id a present entry is kept that is not the suffix entry
pub record IsPresentChild (rows : List (Uid × Told)) (u : Uid) (t : Told) : Type 0 where
  pub there : told_at rows u ≡ Some t
  pub present : is_some t.shown ≡ true
  pub child : uid_eq u suffix_id ≡ false

-- the printed name that an entry lost
abbrev pub lost_with : DirectoryView → Told → Option (List ℕ)
lost_with v t = if is_lost t.name t.shown then Some (dn_below v (t.name ∷ path_of v t.parent)) else None

-- a present entry as it shows, and a tombstone
abbrev pub shown_with : DirectoryView → Uid → Told → ShownEntry
shown_with v u t = shown_present u (dn_of v u) t.glue (lost_with v t) t.attrs

abbrev pub gone_with : DirectoryView → Uid → Told → ShownEntry
gone_with v u t = shown_gone u (dn_below v (tombstone_rdn u ∷ [])) t.parent t.attrs
