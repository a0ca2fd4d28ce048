-- No write and no compare is refused with the code 0.
use Rattle.std.proofs.Common.{◌≡◌, ◌≢◌, ℕ, Bool, true, false, cond, not, ◌&&◌, List, [], ◌∷◌, length, refl, ap, nat_lt, Result, Ok, Err, Option, Some, None}
use Rattle.std.specs.Prelude.{is_some}
use Rattle.std.specs.List.{list_any, list_all}
use Rattle.repl_data.specs.declared.csn.Uid.{Uid}
use Rattle.repl_data.specs.declared.change.AttrKey.{AttrKey}
use Rattle.repl_data.specs.declared.change.Val.{Val}
use Rattle.repl_data.specs.declared.change.Attr.{Attr}
use Rattle.repl_data.specs.declared.change.Rdn.{Rdn}
use Rattle.repl_data.specs.declared.change.Body.{Body}
use Rattle.repl_data.specs.Types.{is_derived_attribute, is_derived_value, is_derived_ava}
use Rattle.repl_data.specs.Check.{is_empty, needs_values, has_value, weight}
use Rattle.repl_data.specs.View.{DirectoryView, child_of, vals_at}
use Rattle.dn_text.specs.Reading.{dn_in}
use Rattle.ldap_types.specs.declared.request.Control.{Control}
use Rattle.ldap_types.specs.declared.request.RawAttr.{RawAttr}
use Rattle.ldap_types.specs.declared.request.Op.{Op}
use Rattle.ldap_types.specs.declared.request.Op.TheVariants.{Add as AddEntry, Modify, Delete, Rename, Compare}
use Rattle.ldap_types.specs.declared.reply.Identity.{Identity}
use Rattle.ldap_types.specs.declared.reply.LdapResult.{LdapResult}
use Rattle.ldap_rules.specs.Case.{◌>>=◌, refuse, refuse_if, coded}
use Rattle.rule_values.specs.Listed.{entry_attributes}
use Rattle.dn_text.specs.Names.{rdns_above, entry_at, read_object, within}
use Rattle.ldap_rules.specs.Writes.{is_unknown, is_update_control, is_supplier, is_manager, all_writes, not_too_heavy, light_change}
use Rattle.ldap_rules.specs.Add.{add_body, add_verdict}
use Rattle.ldap_rules.specs.Modify.{modify_made, modify_verdict}
use Rattle.ldap_rules.specs.Delete.{delete_made, delete_verdict}
use Rattle.ldap_rules.specs.Rename.{rename_made, rename_verdict}
use Rattle.ldap_rules.specs.Compare.{compare_verdict}
use Rattle.ldap_rules.specs.Verdict.{Refuses, adds, changes, answers, op_verdict}
use Rattle.ldap_rules.proofs.Told.{Tells, tells, tells_nothing, tells_if, tells_then, entry_tells, read_tells, within_tells, coded_tells, modify_tells, delete_tells, rename_tells, compare_tells}

-- ---- writes

writes_tell : (suffix : List ℕ) (controls : List Control) (bound : Identity) (object : List ℕ) → Tells (all_writes suffix controls bound object)
unfolding all_writes
writes_tell suffix controls bound object =
    tells_then (refuse_if (list_any is_unknown controls) 12) _ (tells_if (list_any is_unknown controls) 12 refl) (λ _.
    tells_then (refuse_if (list_any is_update_control controls && not (is_supplier bound)) 50) _ (tells_if (list_any is_update_control controls && not (is_supplier bound)) 50 refl) (λ _.
    tells_then (refuse_if (not (is_manager bound)) 50) _ (tells_if (not (is_manager bound)) 50 refl) (λ _.
    tells_then (read_object (dn_in object)) _ (read_tells object) (λ name. within_tells (rdns_above (dn_in suffix) name)))))

heavy_tells : (body : Body) → Tells (not_too_heavy body)
heavy_tells body = tells_then (refuse_if (nat_lt 2097152 (weight body)) 11) _ (tells_if (nat_lt 2097152 (weight body)) 11 refl) (λ _. tells_nothing body)

light_tells : (change : Uid × Body) → Tells (light_change change)
light_tells change = tells_then (not_too_heavy change.1) _ (heavy_tells change.1) (λ body. tells_nothing _)

add_tells : (v : DirectoryView) (given : List RawAttr) (rdns : List Rdn) → Tells (add_body v given rdns)
unfolding add_body
add_tells v given [] = tells 68 refl
add_tells v given (rdn ∷ above) =
    tells_then (refuse_if (list_any is_derived_ava rdn.avas) 64) _ (tells_if (list_any is_derived_ava rdn.avas) 64 refl) (λ _.
    tells_then (entry_at v above) _ (entry_tells v above) (λ parent.
    tells_then (refuse_if (is_some (child_of v parent rdn)) 68) _ (tells_if (is_some (child_of v parent rdn)) 68 refl) (λ _.
    tells_then (coded (entry_attributes rdn given)) _ (coded_tells (entry_attributes rdn given)) (λ attrs. tells_nothing _))))

-- ---- operation by operation

change_tells : (writes : Result (List Rdn) LdapResult) (f : List Rdn → Result (Uid × Body) LdapResult) → Tells writes → ((rdns : List Rdn) → Tells (f rdns)) → Tells (writes >>= f >>= light_change)
change_tells writes f w g = tells_then (writes >>= f) light_change (tells_then writes f w g) light_tells

added : (made : Result Body LdapResult) (r : LdapResult) → adds made ≡ Refuses r → made ≡ Err r
added (Ok body) r h = let n : ⊥ = cc in absurd n
added (Err e) r h = let same : e ≡ r = cc in ap Err same

changed : (made : Result (Uid × Body) LdapResult) (r : LdapResult) → changes made ≡ Refuses r → made ≡ Err r
changed (Ok change) r h = let n : ⊥ = cc in absurd n
changed (Err e) r h = let same : e ≡ r = cc in ap Err same

answered : (made : Result LdapResult LdapResult) (r : LdapResult) → answers made ≡ Refuses r → made ≡ Err r
answered (Ok answer) r h = let n : ⊥ = cc in absurd n
answered (Err e) r h = let same : e ≡ r = cc in ap Err same

pub op_tells : (v : DirectoryView) (controls : List Control) (bound : Identity) (op : Op) (r : LdapResult) → op_verdict v controls bound op ≡ Refuses r → r.code.number ≢ 0
op_tells v controls bound (AddEntry object given) r h =
    tells_then (all_writes v.suffix controls bound object >>= add_body v given) not_too_heavy
    (tells_then (all_writes v.suffix controls bound object) (add_body v given) (writes_tell v.suffix controls bound object) (add_tells v given)) heavy_tells
    r (added (add_verdict v controls bound object given) r h)
op_tells v controls bound (Modify object given) r h =
    change_tells (all_writes v.suffix controls bound object) (modify_made v given) (writes_tell v.suffix controls bound object) (modify_tells v given)
    r (changed (modify_verdict v controls bound object given) r h)
op_tells v controls bound (Delete object) r h =
    change_tells (all_writes v.suffix controls bound object) (delete_made v) (writes_tell v.suffix controls bound object) (delete_tells v)
    r (changed (delete_verdict v controls bound object) r h)
op_tells v controls bound (Rename object new_rdn old superior) r h =
    change_tells (all_writes v.suffix controls bound object) (rename_made v new_rdn old superior) (writes_tell v.suffix controls bound object) (rename_tells v new_rdn old superior)
    r (changed (rename_verdict v controls bound object new_rdn old superior) r h)
op_tells v controls bound (Compare object name value) r h = compare_tells v controls object name value r (answered (compare_verdict v controls object name value) r h)
op_tells v controls bound _ r h = tells 53 refl r (added (refuse 53) r h)
