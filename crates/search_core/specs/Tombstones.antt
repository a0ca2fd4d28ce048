-- SEARCHES OF TOMBSTONES: what asks for them, and which of them are meant.
use Rattle.std.specs.Prelude.{ℕ, Bool, true, false, ◌&&◌, ◌||◌, List, [], ◌∷◌, ◌++◌, flat_map, codes, Option, Some, None, if◌then◌else◌}
use Rattle.std.specs.Option.{option_to_list}
use Rattle.std.specs.List.{list_any}
use Rattle.repl_data.specs.declared.csn.Uid.{Uid}
use Rattle.repl_data.specs.declared.change.Ava.{Ava}
use Rattle.repl_data.specs.declared.change.Rdn.{Rdn}
use Rattle.repl_data.specs.declared.change.ShownEntry.{ShownEntry}
use Rattle.repl_data.specs.Order.{bytes_eq}
use Rattle.repl_data.specs.Text.{uid_text}
use Rattle.repl_data.specs.View.{DirectoryView, tombstones_of, tombstone_of}
use Rattle.attr_keys.specs.declared.kind.Kind.TheVariants.{Dir}
use Rattle.ldap_types.specs.declared.request.Filter.{Filter, fold-Filter}
use Rattle.ldap_types.specs.declared.request.Filter.TheOpen.{Filter-F}
use Rattle.filter_truth.specs.Truth.{attr_of, value_of}
use Rattle.search_core.specs.declared.scope.Scope.{Scope}
use Rattle.search_core.specs.declared.scope.Scope.TheVariants.{Base, Children, Subtree}
use Rattle.search_core.specs.Made.{vector_id, vector_entry}

-- ---- what asks for them

abbrev pub is_some_of : List ℕ → Option (List ℕ) → Bool
is_some_of key None = false
is_some_of key (Some k) = bytes_eq k key

-- the equality of `objectClass` and `nsTombstone`, however both are spelled
abbrev pub names_class : List ℕ → List ℕ → Bool
names_class name value = is_some_of (codes "objectclass") (attr_of name) && is_some_of (codes "nstombstone") (value_of Dir value)

-- whether a filter is that, and whether it asks for tombstones
pub record Asking : Type 0 where
  pub is_it : Bool
  pub asks : Bool

-- it is that, or an `and` with that as a direct member
abbrev pub asking_step : Filter-F Asking → Asking
asking_step (Filter-F.Equality name value) = record { is_it = names_class name value; asks = names_class name value }
asking_step (Filter-F.And inside) = record { is_it = false; asks = list_any (λ (a : Asking). a.is_it) inside }
asking_step _ = record { is_it = false; asks = false }

unfoldable pub asking : Filter → Asking
asking f = fold-Filter Asking asking_step f

abbrev pub asks_tombstones : Filter → Bool
asks_tombstones f = (asking f).asks

-- ---- which are meant

-- the id in a name `nsuniqueid=<id>` directly below the suffix
abbrev pub id_in_parts : List Ava → Option (List ℕ)
id_in_parts (a ∷ []) = if bytes_eq a.attr.name (codes "nsuniqueid") then Some a.val.key else None
id_in_parts _ = None

abbrev pub id_in : List Rdn → Option (List ℕ)
id_in (r ∷ []) = id_in_parts r.avas
id_in _ = None

abbrev pub is_named : List Rdn → List ℕ → Bool
is_named rdns id = is_some_of id (id_in rdns)

abbrev pub is_wanted : Bool → List Rdn → List ℕ → Bool
is_wanted everything rdns id = if everything then true else is_named rdns id

-- the tombstones with the vector's entry behind them, of those that are wanted by id
abbrev pub dead_where : (List ℕ → Bool) → DirectoryView → List (List ℕ) → List ShownEntry
dead_where wanted v vector =
    flat_map (λ (u : Uid). if wanted (uid_text u) then option_to_list (tombstone_of v u) else []) (tombstones_of v)
    ++ (if wanted vector_id then vector_entry v.suffix vector ∷ [] else [])

-- a name that is one of theirs
abbrev pub is_dead_name : DirectoryView → List Rdn → Bool
is_dead_name v rdns = list_any (λ (u : Uid). is_named rdns (uid_text u)) (tombstones_of v) || is_named rdns vector_id

-- a base is in its own scope, and what is directly below the suffix is in the suffix's
abbrev pub has_base : Scope → Bool
has_base Base = true
has_base Children = false
has_base Subtree = true

abbrev pub has_children : Scope → Bool
has_children Base = false
has_children Children = true
has_children Subtree = true
