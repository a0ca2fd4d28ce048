-- What one entry gives: nothing, or itself.
use Rattle.std.proofs.Common.{◌≡◌, ℕ, Bool, true, false, ◌&&◌, cond, List, [], ◌∷◌, ◌++◌, Option, Some, None, refl, sym, ap, subst, ◌∙◌, append-nil}
use Rattle.std.specs.Prelude.{codes, is_none, Result, Ok, Err, IfOk}
use Rattle.std.specs.Option.{option_to_list}
use Rattle.repl_data.specs.declared.items.NoMemory.{NoMemory}
use Rattle.repl_data.specs.declared.csn.Uid.{Uid}
use Rattle.repl_data.specs.declared.change.ShownEntry.{ShownEntry}
use Rattle.repl_data.specs.Order.{bytes_eq}
use Rattle.repl_data.specs.View.{DirectoryView, entry_of}
use Rattle.repl_data.proofs.KeyPlaces.{is_same}
use Rattle.attr_keys.specs.declared.kind.Kind.{Kind}
use Rattle.attr_keys.specs.declared.kind.Kind.TheVariants.{Dir}
use Rattle.attr_keys.specs.Name.{bad_name}
use Rattle.attr_keys.specs.Table.{key_of, kind_of, type_of, types}
use Rattle.attr_keys.specs.declared.fault.KeyFault.{KeyFault}
use Rattle.attr_keys.specs.declared.fault.KeyFault.TheVariants.{BadValue}
use Rattle.attr_keys.specs.Value.{bad_value, value_key, IsValueFault}
use Rattle.ldap_types.specs.declared.request.SearchRequest.{SearchRequest}
use Rattle.ldap_types.specs.declared.request.Filter.{Filter}
use Rattle.filter_truth.specs.Truth.{attr_of, value_of}
use Rattle.search_core.specs.declared.found.Hits.{Hits}
use Rattle.search_core.specs.Tombstones.{is_some_of}
use Rattle.search_core.specs.Hits.{is_match}
use Rattle.search_core.specs.Search.{told}
use Rattle.search_core.specs.Query.{gives}

pub keep_none : (r : SearchRequest) (all more : List ShownEntry) (h : Hits) → more ≡ [] → h ≡ told r all → h ≡ told r (all ++ more)
keep_none r all more h none e = e ∙ ap (told r) (sym (ap (λ es. all ++ es) none ∙ append-nil all))

-- ---- a present entry

pub gives_none : (v : DirectoryView) (f : Filter) (u : Uid) → is_match v f u ≡ false → gives v f u ≡ []
gives_none v f u h = ap (λ b. cond b (option_to_list (entry_of v u)) []) h

pub gives_gone : (v : DirectoryView) (f : Filter) (u : Uid) → entry_of v u ≡ None → gives v f u ≡ []
gives_gone v f u h = ap (λ o. cond (is_match v f u) (option_to_list o) []) h ∙ by (is_match v f u)
  where
    by : (b : Bool) → cond b (option_to_list (let o : Option ShownEntry = None in o)) [] ≡ []
    by true = refl
    by false = refl

pub gives_one : (v : DirectoryView) (f : Filter) (u : Uid) (e : ShownEntry) → is_match v f u ≡ true → entry_of v u ≡ Some e → gives v f u ≡ e ∷ []
gives_one v f u e h g = λ i. cond (h i) (option_to_list (g i)) []

-- ---- the class of a tombstone

pub class_kind : kind_of (codes "objectclass") ≡ Dir
unfolding kind_of type_of types
class_kind = refl

read_name : (name key : List ℕ) → key ≡ key_of name → bad_name name ≡ None → attr_of name ≡ Some key
read_name name key k good = ap (λ (o : Option ℕ). cond (is_none o) (Some (key_of name)) None) good ∙ ap Some (sym k)

pub class_yes : (name key : List ℕ) → key ≡ key_of name → bad_name name ≡ None → bytes_eq key (codes "objectclass") ≡ true → (is_some_of (codes "objectclass") (attr_of name) ≡ true) × (key ≡ codes "objectclass")
class_yes name key k good h = (ap (is_some_of (codes "objectclass")) (read_name name key k good) ∙ h, is_same key (codes "objectclass") h)

pub class_no : (name key : List ℕ) → key ≡ key_of name → bad_name name ≡ None → bytes_eq key (codes "objectclass") ≡ false → is_some_of (codes "objectclass") (attr_of name) ≡ false
class_no name key k good h = ap (is_some_of (codes "objectclass")) (read_name name key k good) ∙ h

pub class_bad : (name : List ℕ) (place : ℕ) → bad_name name ≡ Some place → is_some_of (codes "objectclass") (attr_of name) ≡ false
class_bad name place h = ap (λ (o : Option ℕ). is_some_of (codes "objectclass") (cond (is_none o) (Some (key_of name)) None)) h

pub value_yes : (kind : Kind) (value key k : List ℕ) → kind ≡ Dir → key ≡ value_key kind value → bad_value kind value ≡ None → bytes_eq key k ≡ is_some_of k (value_of Dir value)
value_yes kind value key k e is good =
    sym (ap (is_some_of k)
    (ap (λ (o : Option ℕ). cond (is_none o) (Some (value_key Dir value)) None) (ap (λ d. bad_value d value) (sym e) ∙ good)
    ∙ ap Some (ap (λ d. value_key d value) (sym e) ∙ sym is)))

pub value_no : (kind : Kind) (value k : List ℕ) (place : ℕ) → kind ≡ Dir → bad_value kind value ≡ Some place → false ≡ is_some_of k (value_of Dir value)
value_no kind value k place e bad =
    sym (ap (λ (o : Option ℕ). is_some_of k (cond (is_none o) (Some (value_key Dir value)) None)) (ap (λ d. bad_value d value) (sym e) ∙ bad))

pub both_told : (r : Result Bool NoMemory) (a b : Bool) → a ≡ true → IfOk r (λ is. is ≡ b) → IfOk r (λ is. is ≡ (a && b))
both_told (Ok is) a b h g = g ∙ sym (ap (λ c. c && b) h)
both_told (Err e) a b h g = tt

pub neither_told : (a b : Bool) → a ≡ false → false ≡ (a && b)
neither_told a b h = sym (ap (λ c. c && b) h)

pub value_fault : (bad : Option ℕ) (fault : KeyFault) (place : ℕ) → fault ≡ BadValue place → IsValueFault bad fault → bad ≡ Some place
value_fault bad fault place told h = subst (IsValueFault bad) told h
