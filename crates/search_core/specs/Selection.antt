-- THE SELECTION of attributes (RFC 4511, section 4.5.1.8).
use Rattle.std.specs.Prelude.{ℕ, Bool, true, false, not, ◌&&◌, ◌||◌, List, [], ◌∷◌, map, filter, flat_map, codes, if◌then◌else◌}
use Rattle.std.specs.Option.{option_to_list}
use Rattle.std.specs.List.{list_any}
use Rattle.repl_data.specs.declared.change.Shown.{Shown}
use Rattle.repl_data.specs.declared.change.ShownEntry.{ShownEntry}
use Rattle.repl_data.specs.Order.{bytes_eq}
use Rattle.filter_truth.specs.Truth.{attr_of}

abbrev pub has_name : List ℕ → List (List ℕ) → Bool
has_name name names = list_any (λ n. bytes_eq n name) names

-- `1.1` alone
abbrev pub asks_nothing : List (List ℕ) → Bool
asks_nothing (name ∷ []) = bytes_eq name (codes "1.1")
asks_nothing _ = false

abbrev pub is_empty : List (List ℕ) → Bool
is_empty [] = true
is_empty (name ∷ names) = false

-- the keys of the names that can be read
abbrev pub keys_of : List (List ℕ) → List (List ℕ)
keys_of names = flat_map (λ name. option_to_list (attr_of name)) names

-- all user attributes by an empty list or `*`, all operational ones by `+`, and each by its name
abbrev pub is_asked : List (List ℕ) → Shown → Bool
is_asked names s =
    (if s.operational then has_name (codes "+") names else is_empty names || has_name (codes "*") names)
    || has_name s.attr.name (keys_of names)

abbrev pub with_values : Bool → Shown → Shown
with_values types_only s = if types_only then record s { vals = [] } else s

abbrev pub selected_attrs : List (List ℕ) → Bool → List Shown → List Shown
selected_attrs names types_only attrs =
    if asks_nothing names then [] else map (with_values types_only) (filter (is_asked names) attrs)

abbrev pub selected : List (List ℕ) → Bool → ShownEntry → ShownEntry
selected names types_only e = record e { attrs = selected_attrs names types_only e.attrs }
