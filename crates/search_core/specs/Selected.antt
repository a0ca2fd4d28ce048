-- A SELECTION that was read, the names that it was read of, and what it chooses.
use Rattle.std.specs.Prelude.{◌≡◌, ℕ, Bool, ◌||◌, List, [], map, filter, codes, if◌then◌else◌}
use Rattle.repl_data.specs.declared.change.Shown.{Shown}
use Rattle.repl_data.specs.declared.change.ShownEntry.{ShownEntry}
use Rattle.search_core.specs.declared.selection.Selection.{Selection}
use Rattle.search_core.specs.Selection.{has_name, asks_nothing, is_empty, keys_of, with_values}

pub record Chooses (s : Selection) (names : List (List ℕ)) (types_only : Bool) : Type 0 where
  pub nothing : s.nothing ≡ asks_nothing names
  pub users : s.users ≡ (is_empty names || has_name (codes "*") names)
  pub operational : s.operational ≡ has_name (codes "+") names
  pub keys : s.keys ≡ keys_of names
  pub types : s.types_only ≡ types_only

abbrev pub is_chosen : Selection → Shown → Bool
is_chosen s x = (if x.operational then s.operational else s.users) || has_name x.attr.name s.keys

abbrev pub chosen_attrs : Selection → List Shown → List Shown
chosen_attrs s attrs = map (with_values s.types_only) (filter (is_chosen s) attrs)

abbrev pub chosen : Selection → ShownEntry → ShownEntry
chosen s e = record e { attrs = if s.nothing then [] else chosen_attrs s e.attrs }
