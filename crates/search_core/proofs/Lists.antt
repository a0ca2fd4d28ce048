-- What is found one by one is what is found of all.
use Rattle.std.proofs.Common.{◌≡◌, ℕ, Bool, true, false, cond, List, [], ◌∷◌, ◌++◌, Option, Some, None, refl, sym, ap, ◌∙◌, append_assoc}
use Rattle.std.specs.Prelude.{filter, flat_map, Result, Ok, Err, IfOk}
use Rattle.repl_data.specs.declared.items.NoMemory.{NoMemory}
use Rattle.std.specs.Option.{option_to_list}
use Rattle.repl_data.proofs.Loops.{filter_append}
use Rattle.repl_data.specs.declared.csn.Uid.{Uid}
use Rattle.repl_data.specs.declared.change.Rdn.{Rdn}
use Rattle.repl_data.specs.declared.change.ShownEntry.{ShownEntry}
use Rattle.repl_data.specs.Text.{uid_text}
use Rattle.repl_data.specs.View.{DirectoryView, entry_of, tombstones_of, tombstone_of}
use Rattle.ldap_types.specs.declared.request.Filter.{Filter}
use Rattle.ldap_types.specs.declared.request.SearchRequest.{SearchRequest}
use Rattle.ldap_types.specs.declared.reply.LdapResult.{LdapResult}
use Rattle.dn_text.specs.declared.name.Dn.{Dn}
use Rattle.dn_text.specs.Reading.{dn_in}
use Rattle.rule_values.specs.Refusing.{◌>>=◌}
use Rattle.dn_text.specs.Names.{rdns_above}
use Rattle.dn_text.specs.Names.{read_object, within}
use Rattle.search_core.specs.declared.found.Hits.{Hits}
use Rattle.search_core.specs.declared.query.Query.{Query}
use Rattle.search_core.specs.declared.scope.Scope.{Scope}
use Rattle.search_core.specs.Scope.{scope_of, in_scope}
use Rattle.search_core.specs.Made.{vector_id, vector_entry}
use Rattle.search_core.specs.Tombstones.{dead_where, is_wanted}
use Rattle.search_core.specs.Hits.{is_meant, is_match}
use Rattle.search_core.specs.Query.{Asks, gives}
use Rattle.search_core.specs.Dead.{gives_dead, gives_vector}
use Rattle.search_core.specs.Search.{told, present_found, dead_found, read_scope, is_root, root_hits, hits_below, hits}

gives_filtered : (v : DirectoryView) (f : Filter) (us : List Uid) → flat_map (gives v f) us ≡ flat_map (λ (u : Uid). option_to_list (entry_of v u)) (filter (is_match v f) us)
gives_filtered v f [] = refl
gives_filtered v f (u ∷ us) = by (is_match v f u) (gives_filtered v f us)
  where
    by : (b : Bool) → flat_map (gives v f) us ≡ flat_map (λ (u : Uid). option_to_list (entry_of v u)) (filter (is_match v f) us)
        → cond b (option_to_list (entry_of v u)) [] ++ flat_map (gives v f) us ≡ flat_map (λ (u : Uid). option_to_list (entry_of v u)) (cond b (u ∷ filter (is_match v f) us) (filter (is_match v f) us))
    by true more = ap (λ es. option_to_list (entry_of v u) ++ es) more
    by false more = more

pub found_present : (v : DirectoryView) (f : Filter) (scope : Scope) (base : Uid) → flat_map (gives v f) (in_scope v scope base) ≡ present_found v f scope base
found_present v f scope base = gives_filtered v f (in_scope v scope base)

filter_flat : {X Y : Type 0} (p : Y → Bool) (g h : X → List Y) → ((x : X) → h x ≡ filter p (g x)) → (xs : List X) → flat_map h xs ≡ filter p (flat_map g xs)
filter_flat p g h e [] = refl
filter_flat p g h e (x ∷ xs) = (λ i. e x i ++ filter_flat p g h e xs i) ∙ sym (filter_append p (g x) (flat_map g xs))

one_dead : (v : DirectoryView) (f : Filter) (wanted : List ℕ → Bool) (u : Uid) → gives_dead v f wanted u ≡ filter (is_meant f) (cond (wanted (uid_text u)) (option_to_list (tombstone_of v u)) [])
one_dead v f wanted u = by (wanted (uid_text u)) (tombstone_of v u)
  where
    by : (b : Bool) (o : Option ShownEntry) → cond b (cond (elim o [ None ↦ false | Some e ↦ is_meant f e ]) (option_to_list o) []) [] ≡ filter (is_meant f) (cond b (option_to_list o) [])
    by false o = refl
    by true None = refl
    by true (Some e) = refl

pub found_dead : (v : DirectoryView) (vector : List (List ℕ)) (f : Filter) (everything : Bool) (rdns : List Rdn)
    → flat_map (gives_dead v f (is_wanted everything rdns)) (tombstones_of v) ++ gives_vector v.suffix vector f (is_wanted everything rdns vector_id) ≡ dead_found v vector f everything rdns
found_dead v vector f everything rdns =
    ap (λ es. es ++ gives_vector v.suffix vector f (is_wanted everything rdns vector_id))
    (filter_flat (is_meant f) (λ (u : Uid). cond (is_wanted everything rdns (uid_text u)) (option_to_list (tombstone_of v u)) []) (gives_dead v f (is_wanted everything rdns)) (one_dead v f (is_wanted everything rdns)) (tombstones_of v))
    ∙ sym (filter_append (is_meant f) (flat_map (λ (u : Uid). cond (is_wanted everything rdns (uid_text u)) (option_to_list (tombstone_of v u)) []) (tombstones_of v)) (cond (is_wanted everything rdns vector_id) (vector_entry v.suffix vector ∷ []) []))

-- what is told of what is visited is told of what is found
pub scope_told : (v : DirectoryView) (q : Query) (scope : Scope) (base : Uid) (us : List Uid) (x : Result Hits NoMemory) → in_scope v scope base ≡ us
    → IfOk x (λ h. (r : SearchRequest) → Asks q r → h ≡ told r (flat_map (gives v r.filter) us)) → IfOk x (λ h. (r : SearchRequest) → Asks q r → h ≡ told r (present_found v r.filter scope base))
scope_told v q scope base us (Ok h) e k = λ r asks. k r asks ∙ ap (told r) (ap (flat_map (gives v r.filter)) (sym e) ∙ found_present v r.filter scope base)
scope_told v q scope base us (Err x) e k = tt

-- ---- the last case

pub hits_from : (v : DirectoryView) (vector : List (List ℕ)) (r : SearchRequest) (scope : Scope) (name : Dn) (rdns : List Rdn) → read_scope (scope_of r.scope) ≡ Ok scope → read_object (dn_in r.base) ≡ Ok name
    → is_root name.rdns scope ≡ false → within (rdns_above (dn_in v.suffix) name) ≡ Ok rdns → hits v vector r ≡ hits_below v vector r scope rdns
unfolding hits
hits_from v vector r scope name rdns a b e d =
    ap (λ (x : Result Scope LdapResult). x >>= λ s. read_object (dn_in r.base) >>= λ n. (cond (is_root n.rdns s) (Ok (root_hits v r)) (within (rdns_above (dn_in v.suffix) n) >>= λ ds. hits_below v vector r s ds))) a
    ∙ ap (λ (x : Result Dn LdapResult). x >>= λ n. (cond (is_root n.rdns scope) (Ok (root_hits v r)) (within (rdns_above (dn_in v.suffix) n) >>= λ ds. hits_below v vector r scope ds))) b
    ∙ ap (λ t. cond t (Ok (root_hits v r)) (within (rdns_above (dn_in v.suffix) name) >>= λ ds. hits_below v vector r scope ds)) e
    ∙ ap (λ (x : Result (List Rdn) LdapResult). x >>= λ ds. hits_below v vector r scope ds) d
