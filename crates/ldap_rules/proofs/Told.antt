-- A refusal has another code than 0.
use Rattle.std.proofs.Common.{◌≡◌, ◌≢◌, ℕ, Bool, true, false, List, [], ◌∷◌, refl, ap, ◌∙◌, Result, Ok, Err, Option, Some, None, eq-eqb}
use Rattle.std.specs.Prelude.{◌==◌, not, drop}
use Rattle.std.specs.List.{list_any}
use Rattle.repl_data.specs.declared.change.AttrKey.{AttrKey}
use Rattle.repl_data.specs.declared.change.Rdn.{Rdn}
use Rattle.repl_data.specs.Types.{is_derived_ava}
use Rattle.repl_data.specs.Check.{is_empty}
use Rattle.repl_data.specs.View.{DirectoryView, children_of}
use Rattle.repl_data.proofs.Sound.{not_both}
use Rattle.attr_keys.specs.Name.{bad_name}
use Rattle.attr_keys.specs.Table.{kind_of}
use Rattle.attr_keys.specs.Value.{bad_value}
use Rattle.dn_text.specs.declared.name.Dn.{Dn}
use Rattle.dn_text.specs.declared.fault.DnFault.{DnFault}
use Rattle.dn_text.specs.Reading.{dn_in}
use Rattle.ldap_types.specs.declared.request.Control.{Control}
use Rattle.ldap_types.specs.declared.reply.LdapResult.{LdapResult}
use Rattle.dn_text.specs.declared.place.Place.{Place}
use Rattle.dn_text.specs.declared.place.Place.TheVariants.{There, Nearest}
use Rattle.rule_values.specs.declared.fault.Refusal.{Refusal}
use Rattle.rule_values.specs.declared.fault.Refusal.TheVariants as why
use Rattle.rule_values.specs.Codes.{code_of}
use Rattle.ldap_rules.specs.Case.{◌>>=◌, result_of, no_such_object, refuse, refuse_if, coded}
use Rattle.dn_text.specs.Names.{rdns_above, shown_name, found, place_of, entry_at}
use Rattle.rule_values.specs.Listed.{read_name, read_value}
use Rattle.dn_text.specs.Names.{read_object, within}
use Rattle.ldap_types.specs.declared.request.RawMod.{RawMod}
use Rattle.rule_values.specs.Modify.{modifications}
use Rattle.ldap_rules.specs.Modify.{own_name, modify_made}
use Rattle.ldap_rules.specs.Delete.{delete_made}
use Rattle.ldap_rules.specs.Rename.{only, read_new, is_above, stays_below, is_taken, dropped_parts, is_second, own_values, rename_made}
use Rattle.ldap_rules.specs.Compare.{ShownKeys, keys_in, shown_at, there, compared, is_critical, compare_verdict}

-- where the cases refuse, they tell a code other than 0
abbrev pub Tells : {A : Type 0} → Result A LdapResult → Type 0
Tells cases = (r : LdapResult) → cases ≡ Err r → r.code.number ≢ 0

pub tells_nothing : {A : Type 0} (x : A) → Tells {A = A} (Ok x)
tells_nothing x r h z = let n : ⊥ = cc in n

pub tells_err : {A : Type 0} (x : LdapResult) → (x.code.number == 0) ≡ false → Tells {A = A} (Err x)
tells_err x n r h z =
    let same : x ≡ r = cc in
    not_both (x.code.number == 0) (eq-eqb x.code.number 0 (ap (λ (y : LdapResult). y.code.number) same ∙ z)) n

pub tells : {A : Type 0} (number : ℕ) → (number == 0) ≡ false → Tells {A = A} (refuse number)
tells number n = tells_err (result_of number) n

pub tells_if : (b : Bool) (number : ℕ) → (number == 0) ≡ false → Tells (refuse_if b number)
tells_if true number n = tells number n
tells_if false number n = tells_nothing tt

pub tells_then : {A B : Type 0} (cases : Result A LdapResult) (f : A → Result B LdapResult) → Tells cases → ((x : A) → Tells (f x)) → Tells (cases >>= f)
tells_then (Ok x) f h g = g x
tells_then (Err e) f h g = λ r k. let at : e ≡ r = cc in h r (ap Err at)

pub entry_tells : (v : DirectoryView) (rdns : List Rdn) → Tells (entry_at v rdns)
entry_tells v rdns = by (place_of v rdns)
  where
    by : (p : Place) → Tells (found v p)
    by (There u) = tells_nothing u
    by (Nearest u) = tells_err (no_such_object (shown_name v u)) refl

pub read_tells : (text : List ℕ) → Tells (read_object (dn_in text))
read_tells text = by (dn_in text)
  where
    by : (o : Result Dn DnFault) → Tells (read_object o)
    by (Ok dn) = tells_nothing dn
    by (Err e) = tells 34 refl

pub within_tells : (o : Option (List Rdn)) → Tells (within o)
within_tells (Some rdns) = tells_nothing rdns
within_tells None = tells 32 refl

-- no cause has the code 0
code_tells : (cause : Refusal) → (code_of cause == 0) ≡ false
code_tells why.UnknownKind = refl
code_tells why.BadName = refl
code_tells why.BadValue = refl
code_tells why.Derived = refl
code_tells why.NoValue = refl
code_tells why.ListedTwice = refl
code_tells why.HeldAlready = refl
code_tells why.NotHeld = refl
code_tells why.NoModification = refl
code_tells why.TooManyModifications = refl
code_tells why.TooManyAttributes = refl
code_tells why.NameValueGone = refl
code_tells why.SecondValue = refl
code_tells why.NoClass = refl

pub coded_tells : {A : Type 0} (cases : Result A Refusal) → Tells (coded cases)
coded_tells (Ok x) = tells_nothing x
coded_tells (Err cause) = tells (code_of cause) (code_tells cause)

pub delete_tells : (v : DirectoryView) (rdns : List Rdn) → Tells (delete_made v rdns)
unfolding delete_made
delete_tells v rdns =
    tells_then (refuse_if (is_empty rdns) 53) _ (tells_if (is_empty rdns) 53 refl) (λ _.
    tells_then (entry_at v rdns) _ (entry_tells v rdns) (λ u.
    tells_then (refuse_if (not (is_empty (children_of v u))) 66) _ (tells_if (not (is_empty (children_of v u))) 66 refl) (λ _. tells_nothing _)))

only_tells : (rdns : List Rdn) → Tells (only rdns)
only_tells [] = tells 34 refl
only_tells (rdn ∷ []) = tells_nothing rdn
only_tells (rdn ∷ next ∷ more) = tells 34 refl

stays_tells : (v : DirectoryView) (above : List Rdn) (superior : Option (List ℕ)) → Tells (stays_below v above superior)
unfolding stays_below
stays_tells v above None = tells_nothing tt
stays_tells v above (Some text) =
    tells_then (read_object (dn_in text)) _ (read_tells text) (λ superior. tells_if (not (is_above (rdns_above (dn_in v.suffix) superior) above)) 53 refl)

pub modify_tells : (v : DirectoryView) (given : List RawMod) (rdns : List Rdn) → Tells (modify_made v given rdns)
unfolding modify_made
modify_tells v given rdns =
    tells_then (entry_at v rdns) _ (entry_tells v rdns) (λ u.
    tells_then (coded (modifications (own_name v u) (own_values v u) given)) _ (coded_tells (modifications (own_name v u) (own_values v u) given)) (λ mods. tells_nothing _))

pub rename_tells : (v : DirectoryView) (new_rdn : List ℕ) (old : Bool) (superior : Option (List ℕ)) (rdns : List Rdn) → Tells (rename_made v new_rdn old superior rdns)
unfolding rename_made
rename_tells v new_rdn old superior rdns =
    tells_then (refuse_if (is_empty rdns) 53) _ (tells_if (is_empty rdns) 53 refl) (λ _.
    tells_then (entry_at v rdns) _ (entry_tells v rdns) (λ u.
    tells_then (read_new new_rdn) _ (tells_then (read_object (dn_in new_rdn)) _ (read_tells new_rdn) (λ name. only_tells name.rdns)) (λ new.
    tells_then (stays_below v (drop 1 rdns) superior) _ (stays_tells v (drop 1 rdns) superior) (λ _.
    tells_then (refuse_if (list_any is_derived_ava new.avas) 64) _ (tells_if (list_any is_derived_ava new.avas) 64 refl) (λ _.
    tells_then (refuse_if (is_taken v u new) 68) _ (tells_if (is_taken v u new) 68 refl) (λ _.
    tells_then (refuse_if (list_any (is_second (own_values v u) (dropped_parts v u old new)) new.avas) 19) _ (tells_if (list_any (is_second (own_values v u) (dropped_parts v u old new)) new.avas) 19 refl) (λ _. tells_nothing _)))))))

there_tells : (o : Option (List (List ℕ))) → Tells (there o)
there_tells None = tells 16 refl
there_tells (Some keys) = tells_nothing keys

compared_tells : (shown : ShownKeys) (name value : List ℕ) → Tells (compared shown name value)
unfolding compared
compared_tells shown name value =
    tells_then (coded (read_name name)) _ (coded_tells (read_name name)) (λ attr.
    tells_then (there (shown attr)) _ (there_tells (shown attr)) (λ keys.
    tells_then (coded (read_value attr value)) _ (coded_tells (read_value attr value)) (λ v. tells_nothing _)))

pub compare_tells : (v : DirectoryView) (controls : List Control) (object name value : List ℕ) → Tells (compare_verdict v controls object name value)
unfolding compare_verdict
compare_tells v controls object name value =
    tells_then (refuse_if (list_any is_critical controls) 12) _ (tells_if (list_any is_critical controls) 12 refl) (λ _.
    tells_then (read_object (dn_in object)) _ (read_tells object) (λ dn.
    tells_then (within (rdns_above (dn_in v.suffix) dn)) _ (within_tells (rdns_above (dn_in v.suffix) dn)) (λ rdns.
    tells_then (entry_at v rdns) _ (entry_tells v rdns) (λ u. compared_tells (keys_in (shown_at v u)) name value))))
