-- A compare by what a search of its object finds.
use Rattle.std.proofs.Common.{◌≡◌, ℕ, suc, ◌+◌, ◌-◌, Bool, true, false, ◌&&◌, ◌||◌, cond, List, [], ◌∷◌, ◌++◌, map, length, nat_le, Option, Some, None, Result, Ok, Err, pos, refl, sym, ap, ◌∙◌, arith}
use Rattle.std.proofs.lemmas.Bool.Decides.{nat_tests}
use Rattle.std.specs.Prelude.{filter, flat_map, find, option_map, codes, drop, take, unwrap_or}
use Rattle.std.specs.Option.{option_to_list}
use Rattle.std.specs.List.{list_any}
use Rattle.repl_data.specs.declared.csn.Uid.{Uid}
use Rattle.repl_data.specs.declared.change.Rdn.{Rdn}
use Rattle.repl_data.specs.declared.change.Shown.{Shown}
use Rattle.repl_data.specs.declared.change.ShownEntry.{ShownEntry}
use Rattle.repl_data.specs.Check.{is_empty}
use Rattle.repl_data.specs.Order.{uid_eq}
use Rattle.repl_data.specs.View.{DirectoryView, PresentEntry, present_shown, entry_of}
use Rattle.repl_data.proofs.Loops.{map_same}
use Rattle.ldap_types.specs.declared.request.Control.{Control}
use Rattle.ldap_types.specs.declared.request.SearchRequest.{SearchRequest}
use Rattle.ldap_types.specs.declared.request.Filter.{Filter}
use Rattle.ldap_types.specs.declared.request.Filter.TheVariants as sought
use Rattle.ldap_types.specs.declared.reply.LdapResult.{LdapResult}
use Rattle.dn_text.specs.declared.name.Dn.{Dn}
use Rattle.dn_text.specs.declared.fault.DnFault.{DnFault}
use Rattle.dn_text.specs.Reading.{dn_in}
use Rattle.ldap_rules.specs.Case.{◌>>=◌, result_of, refuse_if}
use Rattle.dn_text.specs.Names.{same_keys, rdns_above, entry_at, read_object, within}
use Rattle.ldap_rules.specs.Compare.{keys_in, shown_at, compared, is_critical, compare_verdict}
use Rattle.filter_truth.proofs.Equations.{truth-And}
use Rattle.filter_truth.specs.Three.{is_yes}
use Rattle.filter_truth.specs.Truth.{shows}
use Rattle.search_core.specs.Scope.{scope_of}
use Rattle.search_core.specs.Tree.{IsTree}
use Rattle.search_core.specs.Hits.{is_meant, is_match}
use Rattle.search_core.specs.Selection.{has_name, keys_of, is_asked, with_values, selected}
use Rattle.search_core.specs.Search.{told, present_found, dead_hits, present_hits, hits_below, is_root, root_hits, hits, found_of, search}
use Rattle.search_core.proofs.Askings.{and_asks}
use Rattle.search_core.proofs.Bases.{base_there}
use Rattle.conn_core.specs.Serving.{compare_search, either, compare_result, compare_on}
use Rattle.conn_core.proofs.Named.{has_one, name_some}

-- ---- the empty name

-- the empty text is no name below a suffix that is not empty
above_zero : (n : ℕ) → nat_le (suc n) 0 ≡ false
above_zero n = grind (arith, nat_tests)

nothing_above : (suffix : List ℕ) → is_empty suffix ≡ false → (s : Result Dn DnFault) → dn_in suffix ≡ s → rdns_above s (record { rdns = [] }) ≡ None
nothing_above suffix some (Err x) e = refl
nothing_above suffix some (Ok dn) e = by dn.rdns (name_some suffix dn some e)
  where
    by : (rdns : List Rdn) → has_one rdns → ◌≡◌ {A = Option (List Rdn)} (option_map (λ (count : ℕ). take count []) (cond (nat_le (length rdns) 0 && same_keys (drop (0 - length rdns) []) rdns) (Some (0 - length rdns)) None)) None
    by [] h = let f : true ≡ false = h in absurd cc
    by (r ∷ rs) h =
        ap (λ (b : Bool). let above : Option (List Rdn) = option_map (λ (count : ℕ). take count []) (cond (b && same_keys (drop (0 - length (r ∷ rs)) []) (r ∷ rs)) (Some (0 - length (r ∷ rs))) None) in above)
        (above_zero (length rs))

nothing_in : (text : List ℕ) → is_empty text ≡ true → text ≡ []
nothing_in [] k = refl
nothing_in (c ∷ cs) k = let f : false ≡ true = k in absurd cc

-- ---- all attributes are selected

filter_all : {X : Type 0} (p : X → Bool) (xs : List X) → ((x : X) → p x ≡ true) → filter p xs ≡ xs
filter_all p [] h = refl
filter_all p (x ∷ xs) h = ap (λ (b : Bool). cond b (x ∷ filter p xs) (filter p xs)) (h x) ∙ ap (λ ys. x ∷ ys) (filter_all p xs h)

abbrev all_names : List (List ℕ)
all_names = codes "*" ∷ codes "+" ∷ []

all_asked : (s : Shown) → is_asked all_names s ≡ true
all_asked s = by s.operational (has_name s.attr.name (keys_of all_names))
  where
    by : (b named : Bool) → (cond b (has_name (codes "+") all_names) (false || has_name (codes "*") all_names) || named) ≡ true
    by true named = refl
    by false named = refl

all_selected : (e : ShownEntry) → selected all_names false e ≡ e
all_selected e =
    ap (λ (attrs : List Shown). let x : ShownEntry = record e { attrs = attrs } in x)
    (ap (λ xs. map (with_values false) xs) (filter_all (is_asked all_names) e.attrs all_asked) ∙ map_same e.attrs)

-- ---- what the search of a compare finds

-- by the scope that a request asks for, which is the base
abbrev at_scope : {S G : Type 0} → Option S → G → (S → G) → G
at_scope None none by = none
at_scope (Some scope) none by = by scope

abbrev nothing : LdapResult
nothing = result_of 80

abbrev every : Filter
every = sought.And []

every_meant : (e : ShownEntry) → is_meant every e ≡ true
every_meant e = ap is_yes (truth-And (shows e.attrs) [])

found_there : (u : Uid) (es : List PresentEntry) → list_any (λ (e : PresentEntry). uid_eq e.id u) es ≡ true → (e : PresentEntry) × (find (λ (d : PresentEntry). uid_eq d.id u) es ≡ Some e)
found_there u [] h = let f : false ≡ true = h in absurd cc
found_there u (e ∷ es) h = by (uid_eq e.id u) (λ k. found_there u es k) h
  where
    by : (b : Bool) → (list_any (λ (d : PresentEntry). uid_eq d.id u) es ≡ true → (d : PresentEntry) × (find (λ (d : PresentEntry). uid_eq d.id u) es ≡ Some d))
        → (b || list_any (λ (d : PresentEntry). uid_eq d.id u) es) ≡ true → (d : PresentEntry) × (cond b (Some e) (find (λ (d : PresentEntry). uid_eq d.id u) es) ≡ Some d)
    by true more k = (e, refl)
    by false more k = more k

module _ (v : DirectoryView) (tree : IsTree v) (vector : List (List ℕ)) (object name value : List ℕ) where
  abbrev asked : SearchRequest
  asked = compare_search object

  -- what is found at the base, what is told of it, and of a name
  abbrev found_at : Uid → List ShownEntry
  found_at u = at_scope (scope_of (pos 0)) [] (λ scope. present_found v every scope u)

  abbrev root_at : List Rdn → Bool
  root_at rdns = at_scope (scope_of (pos 0)) false (λ scope. is_root rdns scope)

  abbrev told_below : Option (List Rdn) → LdapResult
  told_below w = at_scope (scope_of (pos 0)) nothing (λ scope. compare_result (found_of (within w >>= λ rdns. hits_below v vector asked scope rdns)) name value)

  abbrev told_named : Result Dn DnFault → LdapResult
  told_named n = at_scope (scope_of (pos 0)) nothing (λ scope. compare_result (found_of (read_object n >>= λ dn. cond (is_root dn.rdns scope) (Ok (root_hits v asked)) (within (rdns_above (dn_in v.suffix) dn) >>= λ rdns. hits_below v vector asked scope rdns))) name value)

  abbrev entry_told : Uid → LdapResult
  entry_told u = compare_result (found_of (Ok (told asked (found_at u)))) name value

  entry_shown : (u : Uid) (e : ShownEntry) → entry_of v u ≡ Some e → entry_told u ≡ either (compared (keys_in (shown_at v u)) name value)
  entry_shown u e h =
      let is : is_match v every u ≡ true = ap (λ (o : Option ShownEntry). elim o [ None ↦ false | Some d ↦ is_meant every d ]) h ∙ every_meant e in
      let found : found_at u ≡ e ∷ [] =
      ap (λ (b : Bool). flat_map (λ (w : Uid). option_to_list (entry_of v w)) (cond b (u ∷ []) [])) is ∙ ap (λ (o : Option ShownEntry). option_to_list o ++ []) h in
      let shown : shown_at v u ≡ e.attrs = ap (λ (o : Option ShownEntry). unwrap_or (option_map (λ (d : ShownEntry). d.attrs) o) []) h in
      ap (λ (es : List ShownEntry). compare_result (found_of (Ok (told asked es))) name value) found
      ∙ ap (λ (d : ShownEntry). either (compared (keys_in d.attrs) name value)) (all_selected e)
      ∙ ap (λ (xs : List Shown). either (compared (keys_in xs) name value)) (sym shown)

  by_entry : (rdns : List Rdn) (e : Result Uid LdapResult) → entry_at v rdns ≡ e
      → compare_result (found_of (e >>= λ u. Ok (told asked (found_at u)))) name value ≡ either (e >>= λ u. compared (keys_in (shown_at v u)) name value)
  by_entry rdns (Err r) h = refl
  by_entry rdns (Ok u) h =
      let there = found_there u v.present (base_there v tree.names rdns u h) in
      entry_shown u (present_shown v there.0) (ap (λ (o : Option PresentEntry). option_map (present_shown v) o) there.1)

  by_place : (w : Option (List Rdn)) → told_below w
      ≡ either (within w >>= λ rdns. entry_at v rdns >>= λ u. compared (keys_in (shown_at v u)) name value)
  by_place None = refl
  by_place (Some rdns) =
      ap (λ (b : Bool). at_scope (scope_of (pos 0)) nothing (λ scope. compare_result (found_of (cond b (dead_hits v vector asked scope rdns) (present_hits v asked scope rdns))) name value)) (and_asks [])
      ∙ by_entry rdns (entry_at v rdns) refl

  no_root : (rdns : List Rdn) → has_one rdns → root_at rdns ≡ false
  no_root [] h = let f : true ≡ false = h in absurd cc
  no_root (r ∷ rs) h = refl

  by_name : (n : Result Dn DnFault) → is_empty object ≡ false → dn_in object ≡ n → told_named n
      ≡ either (read_object n >>= λ dn. within (rdns_above (dn_in v.suffix) dn) >>= λ rdns. entry_at v rdns >>= λ u. compared (keys_in (shown_at v u)) name value)
  by_name (Err x) some e = refl
  by_name (Ok dn) some e =
      ap (λ (b : Bool). at_scope (scope_of (pos 0)) nothing (λ scope. compare_result (found_of (cond b (Ok (root_hits v asked)) (within (rdns_above (dn_in v.suffix) dn) >>= λ rdns. hits_below v vector asked scope rdns))) name value)) (no_root dn.rdns (name_some object dn some e))
      ∙ by_place (rdns_above (dn_in v.suffix) dn)

  searched_object : is_empty object ≡ false → compare_result (search v vector asked) name value
      ≡ either (read_object (dn_in object) >>= λ dn. within (rdns_above (dn_in v.suffix) dn) >>= λ rdns. entry_at v rdns >>= λ u. compared (keys_in (shown_at v u)) name value)
  unfolding hits
  searched_object some = by_name (dn_in object) some refl

  -- the cases of the rules
  ruled : (controls : List Control) (b : Bool) → list_any is_critical controls ≡ b → compare_verdict v controls object name value
      ≡ (refuse_if b 12 >>= λ _. read_object (dn_in object) >>= λ dn. within (rdns_above (dn_in v.suffix) dn) >>= λ rdns. entry_at v rdns >>= λ u. compared (keys_in (shown_at v u)) name value)
  unfolding compare_verdict
  ruled controls b e = ap (λ (x : Bool). refuse_if x 12 >>= λ _. read_object (dn_in object) >>= λ dn. within (rdns_above (dn_in v.suffix) dn) >>= λ rdns. entry_at v rdns >>= λ u. compared (keys_in (shown_at v u)) name value) e

  nowhere : is_empty v.suffix ≡ false → either (read_object (dn_in []) >>= λ dn. within (rdns_above (dn_in v.suffix) dn) >>= λ rdns. entry_at v rdns >>= λ u. compared (keys_in (shown_at v u)) name value) ≡ result_of 32
  unfolding dn_in
  nowhere some = ap (λ (w : Option (List Rdn)). either (within w >>= λ rdns. entry_at v rdns >>= λ u. compared (keys_in (shown_at v u)) name value)) (nothing_above v.suffix some (dn_in v.suffix) refl)

  by_object : is_empty v.suffix ≡ false → (b : Bool) → is_empty object ≡ b → cond b (result_of 32) (compare_result (search v vector asked) name value)
      ≡ either (read_object (dn_in object) >>= λ dn. within (rdns_above (dn_in v.suffix) dn) >>= λ rdns. entry_at v rdns >>= λ u. compared (keys_in (shown_at v u)) name value)
  by_object some false e = searched_object e
  by_object some true e = sym (ap (λ (text : List ℕ). either (read_object (dn_in text) >>= λ dn. within (rdns_above (dn_in v.suffix) dn) >>= λ rdns. entry_at v rdns >>= λ u. compared (keys_in (shown_at v u)) name value)) (nothing_in object e) ∙ nowhere some)

  by_controls : is_empty v.suffix ≡ false → (controls : List Control) (b : Bool) → list_any is_critical controls ≡ b
      → cond b (result_of 12) (cond (is_empty object) (result_of 32) (compare_result (search v vector asked) name value)) ≡ either (compare_verdict v controls object name value)
  by_controls some controls true e = sym (ap (λ (x : Result LdapResult LdapResult). either x) (ruled controls true e))
  by_controls some controls false e = by_object some (is_empty object) refl ∙ sym (ap (λ (x : Result LdapResult LdapResult). either x) (ruled controls false e))

-- THE LAW
pub compares_by_rules : (v : DirectoryView) (vector : List (List ℕ)) (controls : List Control) (object name value : List ℕ) → IsTree v → is_empty v.suffix ≡ false
    → compare_on (search v vector) controls object name value ≡ either (compare_verdict v controls object name value)
compares_by_rules v vector controls object name value tree some = by_controls v tree vector object name value some controls (list_any is_critical controls) refl
