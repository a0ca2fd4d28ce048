-- TOMBSTONES one by one, as they are looked at.
use Rattle.std.specs.Prelude.{◌≡◌, ℕ, Bool, true, false, List, [], ◌∷◌, filter, codes, Option, Some, None, if◌then◌else◌}
use Rattle.repl_data.specs.declared.csn.Uid.{Uid}
use Rattle.repl_data.specs.declared.change.AttrKey.{AttrKey}
use Rattle.repl_data.specs.declared.change.ShownEntry.{ShownEntry}
use Rattle.repl_data.specs.Order.{bytes_eq}
use Rattle.repl_data.specs.Text.{uid_text}
use Rattle.repl_data.specs.View.{DirectoryView}
use Rattle.ldap_types.specs.declared.request.Filter.{Filter}
use Rattle.filter_truth.specs.Truth.{attr_of}
use Rattle.search_core.specs.Made.{vector_entry}
use Rattle.search_core.specs.Tombstones.{asking, Asking, is_some_of}
use Rattle.search_core.specs.Hits.{is_meant}
use Rattle.search_core.specs.Query.{gives_tombstone}

-- the attribute of the name is `objectClass`, or it is not
abbrev pub IsClassAttr : List ℕ → Option AttrKey → Type 0
IsClassAttr name None = is_some_of (codes "objectclass") (attr_of name) ≡ false
IsClassAttr name (Some attr) = (is_some_of (codes "objectclass") (attr_of name) ≡ true) × (attr.name ≡ codes "objectclass")

abbrev pub is_it : Filter → Bool
is_it f = (asking f).is_it

abbrev pub gives_dead : DirectoryView → Filter → (List ℕ → Bool) → Uid → List ShownEntry
gives_dead v f wanted u = if wanted (uid_text u) then gives_tombstone v f u else []

abbrev pub gives_vector : List ℕ → List (List ℕ) → Filter → Bool → List ShownEntry
gives_vector suffix vector f wanted = filter (is_meant f) (if wanted then vector_entry suffix vector ∷ [] else [])
