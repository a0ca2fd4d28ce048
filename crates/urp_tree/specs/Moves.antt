-- HOW A VIEW MOVES: to one in which some entries are as they are told, and all others as before.
use Rattle.std.specs.Prelude.{◌≡◌, false, is_some, ℕ, List, [], ◌∷◌, map, Option, Some, None, option_map, if◌then◌else◌}
use Rattle.std.specs.List.{AllByRecursion}
use Rattle.std.specs.BTreeMap.{BTreeMap}
use Rattle.std.specs.declared.cmp.Ordering.TheVariants.{Less}
use Rattle.repl_data.specs.declared.csn.Uid.{Uid}
use Rattle.repl_data.specs.declared.change.Rdn.{Rdn}
use Rattle.repl_data.specs.declared.change.Attr.{Attr}
use Rattle.repl_data.specs.declared.change.Shown.{Shown}
use Rattle.repl_data.specs.Order.{uid_cmp}
use Rattle.repl_data.specs.View.{DirectoryView, PresentEntry, Tombstone, present_at, gone_at}
use Rattle.urp_tree.specs.declared.row.Row.{Row}
use Rattle.urp_tree.specs.declared.changed.Changed.{Changed}
use Rattle.urp_tree.specs.Walk.{children_in}
use Rattle.urp_tree.specs.Placed.{place_in}
use Rattle.urp_tree.specs.Changes.{is_listed, changes_in}

-- each id is below all later ones
abbrev pub HasRisingPresent : List PresentEntry → Type 0
HasRisingPresent [] = Unit {0}
HasRisingPresent (e ∷ es) = AllByRecursion (λ (f : PresentEntry). uid_cmp e.id f.id ≡ Less) es × HasRisingPresent es

abbrev pub HasRisingGone : List Tombstone → Type 0
HasRisingGone [] = Unit {0}
HasRisingGone (e ∷ es) = AllByRecursion (λ (f : Tombstone). uid_cmp e.id f.id ≡ Less) es × HasRisingGone es

-- an entry as it is told: among the present ones, or as a tombstone
abbrev pub kept : Shown → Attr
kept s = record { attr = s.attr; vals = s.vals }

abbrev pub told_present : Changed → Option PresentEntry
told_present c = option_map (λ (rdn : Rdn). record { id = c.id; parent = c.parent; name = c.name; shown = rdn; is_glue = c.glue; attrs = map kept c.attrs }) c.after

abbrev pub told_gone : Changed → Option Tombstone
told_gone c = if is_some c.after then None else Some (record { id = c.id; parent = c.parent; name = c.name; attrs = map kept c.attrs })

pub record StandsAs (v : DirectoryView) (c : Changed) : Type 0 where
  pub present : present_at v c.id ≡ told_present c
  pub gone : gone_at v c.id ≡ told_gone c

-- an entry is the same in two views, present, a tombstone, or in neither
pub record StaysAs (before after : DirectoryView) (u : Uid) : Type 0 where
  pub present : present_at after u ≡ present_at before u
  pub gone : gone_at after u ≡ gone_at before u

pub record IsViewMove (before after : DirectoryView) (cs : List Changed) : Type 0 where
  pub suffix : after.suffix ≡ before.suffix
  pub present : HasRisingPresent after.present
  pub gone : HasRisingGone after.gone
  pub told : AllByRecursion (StandsAs after) cs
  pub others : (u : Uid) → is_listed u cs ≡ false → StaysAs before after u

-- the view without entries
abbrev pub empty_view : List ℕ → DirectoryView
empty_view suffix = record { suffix = suffix; present = []; gone = [] }

-- AS ROWS TELL THEM: the entry in a seat, as if it had not been there before
abbrev pub told_seat : BTreeMap Uid (Option Row) → Uid × Option Row → List Changed
told_seat rows e = changes_in rows e.1 e.0 None (place_in (children_in rows) e.0)
