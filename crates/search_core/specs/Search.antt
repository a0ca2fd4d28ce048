-- THE RESULT OF A SEARCH (RFC 4511, section 4.5): the first case that fits.
use Rattle.std.specs.Prelude.{ℕ, Bool, true, false, ◌&&◌, List, [], ◌∷◌, map, filter, flat_map, Option, Some, None, Result, Ok, Err, if◌then◌else◌}
use Rattle.std.specs.Option.{option_to_list}
use Rattle.repl_data.specs.declared.csn.Uid.{Uid}
use Rattle.repl_data.specs.declared.change.Rdn.{Rdn}
use Rattle.repl_data.specs.declared.change.ShownEntry.{ShownEntry}
use Rattle.repl_data.specs.Order.{uid_eq, suffix_id}
use Rattle.repl_data.specs.View.{DirectoryView, entry_of}
use Rattle.ldap_types.specs.declared.request.SearchRequest.{SearchRequest}
use Rattle.ldap_types.specs.declared.request.Filter.{Filter}
use Rattle.ldap_types.specs.declared.reply.LdapResult.{LdapResult}
use Rattle.dn_text.specs.declared.name.Dn.{Dn}
use Rattle.dn_text.specs.Reading.{dn_in}
use Rattle.rule_values.specs.Refusing.{◌>>=◌}
use Rattle.dn_text.specs.Case.{result_of, refuse}
use Rattle.dn_text.specs.Names.{rdns_above, entry_at}
use Rattle.dn_text.specs.Names.{read_object, within}
use Rattle.search_core.specs.declared.found.Found.{Found}
use Rattle.search_core.specs.declared.found.Hits.{Hits}
use Rattle.search_core.specs.declared.scope.Scope.{Scope}
use Rattle.search_core.specs.declared.scope.Scope.TheVariants.{Base}
use Rattle.search_core.specs.Scope.{scope_of, in_scope}
use Rattle.search_core.specs.Selection.{selected}
use Rattle.search_core.specs.Made.{root_entry}
use Rattle.search_core.specs.Tombstones.{asks_tombstones, is_wanted, is_dead_name, dead_where, has_base, has_children}
use Rattle.search_core.specs.Hits.{is_meant, is_match, is_over, up_to}

-- ---- all that is found, in order

-- the present entries in scope of which the filter says Yes
abbrev pub ids_found : DirectoryView → Filter → Scope → Uid → List Uid
ids_found v f scope base = filter (is_match v f) (in_scope v scope base)

abbrev pub present_found : DirectoryView → Filter → Scope → Uid → List ShownEntry
present_found v f scope base = flat_map (λ (u : Uid). option_to_list (entry_of v u)) (ids_found v f scope base)

-- the tombstones in order of id, and last the entry of the vector: all, or those that are named
abbrev pub dead_found : DirectoryView → List (List ℕ) → Filter → Bool → List Rdn → List ShownEntry
dead_found v vector f everything rdns = filter (is_meant f) (dead_where (is_wanted everything rdns) v vector)

-- ---- what is told of it

abbrev pub told : SearchRequest → List ShownEntry → Hits
told r all = record { entries = map (selected r.attrs r.types_only) (up_to r.size_limit all); over = is_over r.size_limit all }

-- ---- cases

abbrev pub told_if : Bool → SearchRequest → List ShownEntry → Hits
told_if inside r all = told r (if inside then all else [])

-- a name that is theirs is in its own scope, and they are in that of the suffix
abbrev pub dead_hits : DirectoryView → List (List ℕ) → SearchRequest → Scope → List Rdn → Result Hits LdapResult
dead_hits v vector r scope rdns =
    if is_dead_name v rdns then Ok (told_if (has_base scope) r (dead_found v vector r.filter false rdns))
    else entry_at v rdns >>= λ base.
    Ok (told_if (has_children scope && uid_eq base suffix_id) r (dead_found v vector r.filter true rdns))

abbrev pub present_hits : DirectoryView → SearchRequest → Scope → List Rdn → Result Hits LdapResult
present_hits v r scope rdns =
    entry_at v rdns >>= λ base.
    Ok (told r (present_found v r.filter scope base))

abbrev pub hits_below : DirectoryView → List (List ℕ) → SearchRequest → Scope → List Rdn → Result Hits LdapResult
hits_below v vector r scope rdns =
    if asks_tombstones r.filter then dead_hits v vector r scope rdns else present_hits v r scope rdns

abbrev pub read_scope : Option Scope → Result Scope LdapResult
read_scope None = refuse 2
read_scope (Some scope) = Ok scope

abbrev pub is_base : Scope → Bool
is_base Base = true
is_base _ = false

-- the empty name, alone in scope
abbrev pub is_root : List Rdn → Scope → Bool
is_root [] scope = is_base scope
is_root (r ∷ rs) scope = false

abbrev pub root_hits : DirectoryView → SearchRequest → Hits
root_hits v r = told r (filter (is_meant r.filter) (root_entry v.suffix ∷ []))

unfoldable pub hits : DirectoryView → List (List ℕ) → SearchRequest → Result Hits LdapResult
hits v vector r =
    read_scope (scope_of r.scope) >>= λ scope.
    read_object (dn_in r.base) >>= λ name.
    (if is_root name.rdns scope then Ok (root_hits v r)
    else within (rdns_above (dn_in v.suffix) name) >>= λ rdns. hits_below v vector r scope rdns)

-- sizeLimitExceeded where there was more
abbrev pub found_of : Result Hits LdapResult → Found
found_of (Ok h) = record { entries = h.entries; result = result_of (if h.over then 4 else 0) }
found_of (Err refusal) = record { entries = []; result = refusal }

-- THE RESULT OF A SEARCH
abbrev pub search : DirectoryView → List (List ℕ) → SearchRequest → Found
search v vector r = found_of (hits v vector r)
