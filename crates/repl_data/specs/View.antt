-- THE VIEW of a set of changes, as a value, and what is asked of it.
use Rattle.std.specs.Prelude.{◌≡◌, ℕ, Bool, true, false, not, ◌&&◌, ◌||◌, List, [], ◌∷◌, ◌++◌, map, reverse, filter, find, flat_map, codes, Option, Some, None, option_map, count_by, if◌then◌else◌}
use Rattle.std.specs.List.{list_any}
use Rattle.std.specs.Cmp.Lexicographic.{slice_cmp}
use Rattle.std.specs.declared.cmp.Ordering.{Ordering}
use Rattle.std.specs.declared.cmp.Ordering.TheVariants.{Less}
use Rattle.std.specs.Ordering.{ordering_then}
use Rattle.repl_data.specs.declared.csn.Uid.{Uid}
use Rattle.repl_data.specs.declared.change.AttrKey.{AttrKey}
use Rattle.repl_data.specs.declared.change.Val.{Val}
use Rattle.repl_data.specs.declared.change.Rdn.{Rdn}
use Rattle.repl_data.specs.declared.change.Attr.{Attr}
use Rattle.repl_data.specs.declared.change.Shown.{Shown}
use Rattle.repl_data.specs.declared.change.ShownEntry.{ShownEntry}
use Rattle.repl_data.specs.declared.change.Change.{Change}
use Rattle.repl_data.specs.declared.change.Suffix.{Suffix}
use Rattle.repl_data.specs.Order.{uid_eq, uid_cmp, suffix_id, same_rdn, rdn_key, rdn_key_cmp, bytes_cmp, bytes_eq, put_by, in_order_by}
use Rattle.repl_data.specs.Text.{uid_text, rdn_text, joined}
use Rattle.repl_data.specs.Key.{bytes_key}
use Rattle.repl_data.specs.Stamps.{text_val}
use Rattle.repl_data.specs.Facts.{EntryFacts, all_facts, attrs_shown}
use Rattle.repl_data.specs.Presence.{is_live, present_of, gone_of}
use Rattle.repl_data.specs.Names.{shown_rdn, with_id}

-- a present entry: its name, the RDN that it shows, and the values that it shows of its own
pub record PresentEntry : Type 0 where
  pub id : Uid
  pub parent : Uid
  pub name : Rdn
  pub shown : Rdn
  pub is_glue : Bool
  pub attrs : List Attr

-- an entry that was added and is not present
pub record Tombstone : Type 0 where
  pub id : Uid
  pub parent : Uid
  pub name : Rdn
  pub attrs : List Attr

-- the suffix's printed name, the present entries and the tombstones, both in rising order of id. So views
-- of the same entries are equal
pub record DirectoryView : Type 0 where
  pub suffix : List ℕ
  pub present : List PresentEntry
  pub gone : List Tombstone

-- the view of what is known of the entries
abbrev pub view_of_facts : List ℕ → List EntryFacts → DirectoryView
view_of_facts suffix es =
    let present = present_of es in
    record {
      suffix = suffix;
      present = map (λ (e : EntryFacts). record { id = e.id; parent = e.parent; name = e.rdn; shown = shown_rdn present e; is_glue = not (is_live e); attrs = attrs_shown e }) present;
      gone = map (λ (e : EntryFacts). record { id = e.id; parent = e.parent; name = e.rdn; attrs = attrs_shown e }) (gone_of es);
    }

-- THE VIEW OF A SET OF CHANGES
abbrev pub view_of : Suffix → List Change → DirectoryView
view_of suffix changes = view_of_facts suffix.name (all_facts suffix changes)

-- QUESTIONS
abbrev pub present_at : DirectoryView → Uid → Option PresentEntry
present_at v u = find (λ (e : PresentEntry). uid_eq e.id u) v.present

abbrev pub gone_at : DirectoryView → Uid → Option Tombstone
gone_at v u = find (λ (e : Tombstone). uid_eq e.id u) v.gone

abbrev pub is_shown_below : Uid → PresentEntry → Bool
is_shown_below parent e = uid_eq e.parent parent && not (uid_eq e.id suffix_id)

abbrev pub children_entries : DirectoryView → Uid → List PresentEntry
children_entries v parent = filter (is_shown_below parent) v.present

-- the child that shows this RDN
abbrev pub child_of : DirectoryView → Uid → Rdn → Option Uid
child_of v parent rdn =
    option_map (λ (e : PresentEntry). e.id) (find (λ (e : PresentEntry). same_rdn e.shown rdn) (children_entries v parent))

-- the children, in order of shown RDN key. (No two of them show one key. The id stands beside it so that
-- the order loses none.)
abbrev pub shown_key : PresentEntry → List (List ℕ × List ℕ) × Uid
shown_key e = (rdn_key e.shown, e.id)

abbrev pub shown_key_cmp : List (List ℕ × List ℕ) × Uid → List (List ℕ × List ℕ) × Uid → Ordering
shown_key_cmp a b = ordering_then (rdn_key_cmp a.0 b.0) (uid_cmp a.1 b.1)

abbrev pub children_of : DirectoryView → Uid → List Uid
children_of v parent = map (λ (e : PresentEntry). e.id) (in_order_by shown_key shown_key_cmp (children_entries v parent))

-- the shown RDNs from an entry up to below the suffix, among entries in falling order of id
abbrev pub path_among : List PresentEntry → Uid → List Rdn
path_among [] u = []
path_among (e ∷ below) u =
    (if uid_eq e.id u && not (uid_eq u suffix_id) then e.shown ∷ [] else [])
    ++ path_among below (if uid_eq e.id u then e.parent else u)

abbrev pub path_of : DirectoryView → Uid → List Rdn
path_of v u = path_among (reverse v.present) u

-- the name that an entry shows
abbrev pub dn_below : DirectoryView → List Rdn → List ℕ
dn_below v rdns = joined (codes ",") (map rdn_text rdns ++ v.suffix ∷ [])

abbrev pub dn_of : DirectoryView → Uid → List ℕ
dn_of v u = dn_below v (path_of v u)

-- DERIVED ATTRIBUTES AND CLASSES
-- each value has the key of its text, as any value of its type
abbrev pub glue_class : Val
glue_class = text_val (codes "glue")

abbrev pub tombstone_class : Val
tombstone_class = record { key = codes "nstombstone"; spelled = codes "nsTombstone" }

-- what glue shows, and what an entry that lost its name shows, with the name that it lost
abbrev pub glue_conflict : Val
glue_conflict = record { key = codes "deletedentryhaschildren"; spelled = codes "deletedEntryHasChildren" }

abbrev pub naming_conflict : List ℕ → Val
naming_conflict dn = record { key = bytes_key (codes "namingConflict " ++ dn); spelled = codes "namingConflict " ++ dn }

abbrev pub id_val : Uid → Val
id_val u = text_val (uid_text u)

abbrev pub key_named : List ℕ → AttrKey
key_named name = record { name = name }

abbrev pub put_attr : Attr → List Attr → List Attr
put_attr = put_by (λ (a : Attr). a.attr.name) bytes_cmp

abbrev pub put_val : Val → List Val → List Val
put_val = put_by (λ (v : Val). v.key) bytes_cmp

abbrev pub vals_at : List ℕ → List Attr → List Val
vals_at name attrs = flat_map (λ (a : Attr). if bytes_eq a.attr.name name then a.vals else []) attrs

abbrev pub with_class : Val → List Attr → List Attr
with_class class attrs =
    put_attr (record { attr = key_named (codes "objectclass"); vals = put_val class (vals_at (codes "objectclass") attrs) }) attrs

abbrev pub lost_name : PresentEntry → Bool
lost_name e = not (same_rdn e.name e.shown)

-- the printed name that an entry lost
abbrev pub lost_dn : DirectoryView → PresentEntry → Option (List ℕ)
lost_dn v e = if lost_name e then Some (dn_below v (e.name ∷ path_of v e.parent)) else None

-- the values of `nsds5replconflict`, by key: of glue, and of an entry that lost this name
abbrev pub naming_conflicts : Option (List ℕ) → List Val
naming_conflicts None = []
naming_conflicts (Some dn) = naming_conflict dn ∷ []

abbrev pub conflicts : Bool → Option (List ℕ) → List Val
conflicts glue lost = (if glue then glue_conflict ∷ [] else []) ++ naming_conflicts lost

abbrev pub user : Attr → Shown
user a = record { attr = a.attr; vals = a.vals; operational = false }

abbrev pub operational : List ℕ → List Val → List Shown
operational name [] = []
operational name (v ∷ vals) = record { attr = key_named name; vals = v ∷ vals; operational = true } ∷ []

abbrev pub with_operational : List Shown → List Attr → List Shown
with_operational own attrs = in_order_by (λ (s : Shown). s.attr.name) bytes_cmp (own ++ map user attrs)

-- a present entry as it shows: by its id, its printed name, whether it is glue, the name that it lost, and
-- its own values
abbrev pub shown_present : Uid → List ℕ → Bool → Option (List ℕ) → List Attr → ShownEntry
shown_present id dn glue lost attrs = record {
  id = id;
  dn = dn;
  attrs =
      with_operational
      (operational (codes "nsuniqueid") (id_val id ∷ []) ++ operational (codes "nsds5replconflict") (conflicts glue lost))
      (if glue then with_class glue_class attrs else attrs);
}

abbrev pub present_shown : DirectoryView → PresentEntry → ShownEntry
present_shown v e = shown_present e.id (dn_of v e.id) e.is_glue (lost_dn v e) e.attrs

-- a tombstone as it shows: by its id, directly below the suffix
abbrev pub tombstone_rdn : Uid → Rdn
tombstone_rdn u = with_id u (record { avas = [] })

abbrev pub shown_gone : Uid → List ℕ → Uid → List Attr → ShownEntry
shown_gone id dn parent attrs = record {
  id = id;
  dn = dn;
  attrs =
      with_operational
      (operational (codes "nsuniqueid") (id_val id ∷ []) ++ operational (codes "nsparentuniqueid") (id_val parent ∷ []))
      (with_class tombstone_class attrs);
}

abbrev pub tombstone_shown : DirectoryView → Tombstone → ShownEntry
tombstone_shown v e = shown_gone e.id (dn_below v (tombstone_rdn e.id ∷ [])) e.parent e.attrs

abbrev pub entry_of : DirectoryView → Uid → Option ShownEntry
entry_of v u = option_map (present_shown v) (present_at v u)

abbrev pub tombstones_of : DirectoryView → List Uid
tombstones_of v = map (λ (e : Tombstone). e.id) v.gone

abbrev pub tombstone_of : DirectoryView → Uid → Option ShownEntry
tombstone_of v u = option_map (tombstone_shown v) (gone_at v u)

abbrev pub first_of_two : {X : Type 0} → Option X → Option X → Option X
first_of_two (Some x) o = Some x
first_of_two None o = o

-- the name of a present entry or a tombstone
abbrev pub name_of : DirectoryView → Uid → Option Rdn
name_of v u = first_of_two (option_map (λ (e : PresentEntry). e.name) (present_at v u)) (option_map (λ (e : Tombstone). e.name) (gone_at v u))

-- its parent. The suffix entry has none
abbrev pub parent_of : DirectoryView → Uid → Option Uid
parent_of v u =
    if uid_eq u suffix_id then None
    else first_of_two (option_map (λ (e : PresentEntry). e.parent) (present_at v u)) (option_map (λ (e : Tombstone). e.parent) (gone_at v u))

-- the entry stands in the view, present or as a tombstone
abbrev pub is_known_in : DirectoryView → Uid → Bool
is_known_in v u = list_any (λ (e : PresentEntry). uid_eq e.id u) v.present || list_any (λ (e : Tombstone). uid_eq e.id u) v.gone

-- THE ORDER OF A LISTING: parents first, and siblings in order of shown RDN key. Entries compare by their paths
-- of RDN keys from the suffix down. (No two have one path. The id stands beside it so that the order loses none.)
abbrev pub path_key : DirectoryView → PresentEntry → List (List (List ℕ × List ℕ)) × Uid
path_key v e = (reverse (map rdn_key (path_of v e.id)), e.id)

abbrev pub path_key_cmp : List (List (List ℕ × List ℕ)) × Uid → List (List (List ℕ × List ℕ)) × Uid → Ordering
path_key_cmp a b = ordering_then (slice_cmp rdn_key_cmp a.0 b.0) (uid_cmp a.1 b.1)

-- whether a present entry is listed before another one
abbrev pub IsListedBefore : DirectoryView → PresentEntry → PresentEntry → Type 0
IsListedBefore v a b = path_key_cmp (path_key v a) (path_key v b) ≡ Less

-- the present entries in this order
abbrev pub in_path_order : DirectoryView → List PresentEntry
in_path_order v = in_order_by (path_key v) path_key_cmp v.present

abbrev pub dump_of : DirectoryView → List ShownEntry
dump_of v = map (present_shown v) (in_path_order v)

-- how many present entries are glue, and how many lost their name
abbrev pub glue_count : DirectoryView → ℕ
glue_count v = count_by (λ (e : PresentEntry). e.is_glue) v.present

abbrev pub conflict_count : DirectoryView → ℕ
conflict_count v = count_by lost_name v.present
