-- WHAT A CHANGE CHANGES of a view.
use Rattle.std.specs.Prelude.{◌≡◌, ◌⊎◌, ◌↔◌, ◌&&◌, Bool, true, false, not, List, [], ◌∷◌, map, Option, Some, None, is_some, unwrap_or, option_map, if◌then◌else◌}
use Rattle.std.specs.List.{list_any, AllByRecursion}
use Rattle.std.specs.BTreeMap.{BTreeMap}
use Rattle.std.specs.declared.cmp.Ordering.TheVariants.{Less}
use Rattle.repl_data.specs.declared.csn.Uid.{Uid}
use Rattle.repl_data.specs.declared.change.Rdn.{Rdn}
use Rattle.repl_data.specs.declared.change.Attr.{Attr}
use Rattle.repl_data.specs.Order.{uid_eq, uid_cmp}
use Rattle.repl_data.specs.Facts.{EntryFacts}
use Rattle.repl_data.specs.Presence.{is_live}
use Rattle.repl_data.specs.Names.{with_id}
use Rattle.repl_data.specs.View.{DirectoryView, PresentEntry, Tombstone, present_at, gone_at, name_of, first_of_two, user}
use Rattle.urp_tree.specs.declared.row.Row.{Row}
use Rattle.urp_tree.specs.declared.changed.Changed.{Changed}
use Rattle.urp_tree.specs.Rows.{row_at}
use Rattle.urp_tree.specs.Walk.{children_in}
use Rattle.urp_tree.specs.Placed.{same_place, place_in}

-- what a view shows of an entry: its RDN and whether it is glue, where it is present; and, present or not, its
-- parent and the values that it holds
abbrev pub shown_at : DirectoryView → Uid → Option Rdn
shown_at v u = option_map (λ (e : PresentEntry). e.shown) (present_at v u)

abbrev pub glue_at : DirectoryView → Uid → Bool
glue_at v u = unwrap_or (option_map (λ (e : PresentEntry). e.is_glue) (present_at v u)) false

abbrev pub parent_at : DirectoryView → Uid → Option Uid
parent_at v u = first_of_two (option_map (λ (e : PresentEntry). e.parent) (present_at v u)) (option_map (λ (e : Tombstone). e.parent) (gone_at v u))

abbrev pub values_at : DirectoryView → Uid → Option (List Attr)
values_at v u = first_of_two (option_map (λ (e : PresentEntry). e.attrs) (present_at v u)) (option_map (λ (e : Tombstone). e.attrs) (gone_at v u))

-- the presence, glue, shown RDN and held values of an entry are the same in two views
pub record IsSame (before after : DirectoryView) (u : Uid) : Type 0 where
  pub shown : shown_at before u ≡ shown_at after u
  pub glue : glue_at before u ≡ glue_at after u
  pub values : values_at before u ≡ values_at after u

abbrev pub Differs : DirectoryView → DirectoryView → Uid → Type 0
Differs before after u = IsSame before after u → ⊥

-- an entry that changes, as the view after shows it
pub record IsTold (v w : DirectoryView) (c : Changed) : Type 0 where
  pub parent : Some c.parent ≡ parent_at w c.id
  pub name : Some c.name ≡ name_of w c.id
  pub before : c.before ≡ shown_at v c.id
  pub after : c.after ≡ shown_at w c.id
  pub glue : c.glue ≡ glue_at w c.id
  pub attrs : Some c.attrs ≡ option_map (map user) (values_at w c.id)

abbrev pub is_listed : Uid → List Changed → Bool
is_listed u cs = list_any (λ (c : Changed). uid_eq c.id u) cs

abbrev pub HasRisingChanges : List Changed → Type 0
HasRisingChanges [] = Unit {0}
HasRisingChanges (c ∷ cs) = AllByRecursion (λ (d : Changed). uid_cmp c.id d.id ≡ Less) cs × HasRisingChanges cs

-- exactly the target and those that differ, each once in order of id, each as it is
pub record AreChanges (before after : DirectoryView) (target : Uid) (cs : List Changed) : Type 0 where
  pub exact : (u : Uid) → (is_listed u cs ≡ true) ↔ ((u ≡ target) ⊎ Differs before after u)
  pub rises : HasRisingChanges cs
  pub told : AllByRecursion (IsTold before after) cs

-- AS ROWS TELL THEM
-- the RDN that an entry shows
abbrev pub shown_with : EntryFacts → Bool → Rdn
shown_with e lost = if lost then with_id e.id e.rdn else e.rdn

abbrev pub before_of : Option Row → Option Bool → Option Rdn
before_of None place = None
before_of (Some r) place = option_map (shown_with r.entry) place

-- an entry with its row, and where it stands before and after
abbrev pub changed_as : BTreeMap Uid (Option Row) → Row → Uid → Option Bool → Option Bool → Changed
changed_as rows r u before after = record {
  id = u;
  parent = r.entry.parent;
  name = r.entry.rdn;
  before = before_of (row_at rows u) before;
  after = option_map (shown_with r.entry) after;
  glue = is_some after && not (is_live r.entry);
  attrs = r.shown;
}

abbrev pub changes_in : BTreeMap Uid (Option Row) → Option Row → Uid → Option Bool → Option Bool → List Changed
changes_in rows None u before after = []
changes_in rows (Some r) u before after = changed_as rows r u before after ∷ []

-- the target is listed, and any other entry that stands elsewhere after
abbrev pub changes_at : BTreeMap Uid (Option Row) → Row → Uid → Option Bool → Option Bool → List Changed
changes_at rows new u before after =
    if uid_eq u new.entry.id then changed_as rows new u before after ∷ []
    else (if same_place before after then [] else changes_in rows (row_at rows u) u before after)

abbrev pub changes_of : BTreeMap Uid (Option Row) → Row → Uid × Option Bool → List Changed
changes_of rows new e = changes_at rows new e.0 (place_in (children_in rows) e.0) e.1
