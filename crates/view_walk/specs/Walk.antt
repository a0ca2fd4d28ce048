-- A WALK over the entries within a base: the base and all below it, in the order of a listing.
use Rattle.std.specs.Prelude.{◌≡◌, Bool, true, not, ◌&&◌, ◌||◌, List, [], ◌∷◌, ◌++◌, map, filter, flat_map, reverse, if◌then◌else◌}
use Rattle.std.specs.List.{AllByRecursion, list_any}
use Rattle.std.specs.Option.{option_to_list}
use Rattle.repl_data.specs.declared.csn.Uid.{Uid}
use Rattle.repl_data.specs.declared.change.ShownEntry.{ShownEntry}
use Rattle.repl_data.specs.Order.{uid_eq, suffix_id}
use Rattle.repl_data.specs.View.{DirectoryView, PresentEntry, in_path_order, entry_of}
use Rattle.view_walk.specs.Tree.{is_present}

-- the entries from one up to below the suffix entry, among entries in falling order of id
abbrev pub lineage_among : List PresentEntry → Uid → List PresentEntry
lineage_among [] u = []
lineage_among (e ∷ below) u =
    (if uid_eq e.id u && not (uid_eq u suffix_id) then e ∷ [] else [])
    ++ lineage_among below (if uid_eq e.id u then e.parent else u)

-- the ids above an entry: its parent's, and so on up to that of the suffix entry
abbrev pub ancestors_of : DirectoryView → Uid → List Uid
ancestors_of v u = map (λ (e : PresentEntry). e.parent) (lineage_among (reverse v.present) u)

-- an entry is within the base: it is the base, or the base is above it
abbrev pub is_within : DirectoryView → Uid → Uid → Bool
is_within v base u = uid_eq u base || list_any (λ (a : Uid). uid_eq a base) (ancestors_of v u)

-- the ids of all within the base, in the order of a listing
abbrev pub subtree : DirectoryView → Uid → List Uid
subtree v base = map (λ (e : PresentEntry). e.id) (filter (λ (e : PresentEntry). is_within v base e.id) (in_path_order v))

-- what is left of a walk that still has to visit these entries and all within them
abbrev pub left : DirectoryView → List Uid → List Uid
left v ids = flat_map (subtree v) ids

abbrev pub ArePresent : DirectoryView → List Uid → Type 0
ArePresent v ids = AllByRecursion (λ (u : Uid). is_present v u ≡ true) ids

-- the entries of these ids, as they show
abbrev pub entries_of : DirectoryView → List Uid → List ShownEntry
entries_of v ids = flat_map (λ (u : Uid). option_to_list (entry_of v u)) ids
