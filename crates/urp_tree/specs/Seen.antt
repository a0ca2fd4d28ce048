-- WHAT A VIEW SHOWS of an entry.
use Rattle.std.specs.Prelude.{◌≡◌, ℕ, Bool, true, false, not, ◌&&◌, List, ◌∷◌, map, filter, Option, Some, option_map}
use Rattle.std.specs.BTreeMap.{BTreeMap}
use Rattle.repl_data.specs.declared.csn.Uid.{Uid}
use Rattle.repl_data.specs.declared.change.Rdn.{Rdn}
use Rattle.repl_data.specs.Order.{uid_eq, suffix_id, same_rdn}
use Rattle.repl_data.specs.Facts.{EntryFacts, attrs_shown}
use Rattle.repl_data.specs.Presence.{is_live, is_child, present_of, is_among_entries}
use Rattle.repl_data.specs.Names.{shown_rdn}
use Rattle.repl_data.specs.View.{DirectoryView, PresentEntry, Tombstone, view_of_facts, present_at, gone_at, path_of, dn_below}
use Rattle.stamp_entry.specs.Shown.{users_shown}
use Rattle.urp_tree.specs.declared.row.Row.{Row}
use Rattle.urp_tree.specs.Rows.{row_at}
use Rattle.urp_tree.specs.Known.{IsPlain, IsLiveRoot}

-- an entry as it stands in the view: among the present ones, or as a tombstone
abbrev pub present_entry : List EntryFacts → EntryFacts → PresentEntry
present_entry present e = record { id = e.id; parent = e.parent; name = e.rdn; shown = shown_rdn present e; is_glue = not (is_live e); attrs = attrs_shown e }

abbrev pub tombstone : EntryFacts → Tombstone
tombstone e = record { id = e.id; parent = e.parent; name = e.rdn; attrs = attrs_shown e }

-- the row is that of the entry that is present under this id, if one is; and of its tombstone
abbrev pub IsPresentRow : List EntryFacts → Uid → Option Row → Type 0
IsPresentRow es u row = (suffix : List ℕ) → present_at (view_of_facts suffix es) u ≡ option_map (λ (r : Row). present_entry (present_of es) r.entry) row

abbrev pub IsGoneRow : List EntryFacts → Uid → Option Row → Type 0
IsGoneRow es u row = (suffix : List ℕ) → gone_at (view_of_facts suffix es) u ≡ option_map (λ (r : Row). tombstone r.entry) row

-- the row is in its seat
abbrev pub IsAt : BTreeMap Uid (Option Row) → Uid → Row → Type 0
IsAt rows u r = row_at rows u ≡ Some r

-- the entry is a child of this parent and shows this name
abbrev pub is_sought : List EntryFacts → Uid → Rdn → EntryFacts → Bool
is_sought present parent rdn e = is_child parent e && same_rdn (shown_rdn present e) rdn

-- what a tree keeps of an entry with its row
pub record IsKept (es : List EntryFacts) (r : Row) : Type 0 where
  pub shown : r.shown ≡ users_shown r.entry
  pub parent : is_among_entries es r.entry.parent ≡ true
  pub plain : IsPlain r.entry
  pub root : IsLiveRoot r.entry

-- the ids of tombstones among some entries
abbrev pub gone_ids : List EntryFacts → List EntryFacts → List Uid
gone_ids es some = map (λ (e : EntryFacts). e.id) (filter (λ (e : EntryFacts). not (is_among_entries (present_of es) e.id)) some)

-- the row of an entry that is not the suffix entry
pub record IsChildAt (rows : BTreeMap Uid (Option Row)) (u : Uid) (e : EntryFacts) : Type 0 where
  pub row : Row
  pub there : row_at rows u ≡ Some row
  pub entry : row.entry ≡ e
  pub child : uid_eq u suffix_id ≡ false

-- the name that an entry contends for, as it is printed
abbrev pub contested_dn : DirectoryView → EntryFacts → List ℕ
contested_dn v e = dn_below v (e.rdn ∷ path_of v e.parent)

-- the entry of a row is present, and so is its parent
pub record IsHere (es : List EntryFacts) (r : Row) : Type 0 where
  pub own : is_among_entries (present_of es) r.entry.id ≡ true
  pub parent : is_among_entries (present_of es) r.entry.parent ≡ true
