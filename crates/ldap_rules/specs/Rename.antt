-- A MODIFY DN (RFC 4511, section 4.9): what becomes of it, first case that fits.
use Rattle.std.specs.Prelude.{ℕ, Bool, false, not, ◌&&◌, List, [], ◌∷◌, drop, filter, Option, Some, None, unwrap_or, Result, Ok, if◌then◌else◌}
use Rattle.std.specs.List.{list_any}
use Rattle.repl_data.specs.declared.csn.Uid.{Uid}
use Rattle.repl_data.specs.declared.change.Ava.{Ava}
use Rattle.repl_data.specs.declared.change.Val.{Val}
use Rattle.repl_data.specs.declared.change.Rdn.{Rdn}
use Rattle.repl_data.specs.declared.change.Shown.{Shown}
use Rattle.repl_data.specs.declared.change.Body.{Body}
use Rattle.repl_data.specs.declared.change.Body.TheVariants.{Ren}
use Rattle.repl_data.specs.Order.{uid_eq, bytes_eq}
use Rattle.repl_data.specs.Types.{is_derived_ava}
use Rattle.repl_data.specs.Check.{is_empty}
use Rattle.repl_data.specs.Facts.{is_in_name}
use Rattle.repl_data.specs.View.{DirectoryView, child_of, name_of, parent_of}
use Rattle.repl_data.specs.Lent.{own_of}
use Rattle.attr_keys.specs.Table.{is_single}
use Rattle.dn_text.specs.Reading.{dn_in}
use Rattle.ldap_types.specs.declared.request.Control.{Control}
use Rattle.ldap_types.specs.declared.reply.Identity.{Identity}
use Rattle.ldap_types.specs.declared.reply.LdapResult.{LdapResult}
use Rattle.ldap_rules.specs.Case.{◌>>=◌, refuse, refuse_if}
use Rattle.dn_text.specs.Names.{same_keys, rdns_above, entry_at, read_object}
use Rattle.ldap_rules.specs.Writes.{all_writes, light_change}

-- ---- the new name

-- a name of exactly one RDN
abbrev pub only : List Rdn → Result Rdn LdapResult
only [] = refuse 34
only (rdn ∷ []) = Ok rdn
only (rdn ∷ next ∷ more) = refuse 34

abbrev pub read_new : List ℕ → Result Rdn LdapResult
read_new text = read_object (dn_in text) >>= λ name. only name.rdns

-- the new superior is named as the parent is: by the keys of the RDNs above the entry's own
abbrev pub is_above : Option (List Rdn) → List Rdn → Bool
is_above None above = false
is_above (Some rdns) above = same_keys rdns above

unfoldable pub stays_below : DirectoryView → List Rdn → Option (List ℕ) → Result (Unit {0}) LdapResult
stays_below v above None = Ok tt
stays_below v above (Some text) =
    read_object (dn_in text) >>= λ superior.
    refuse_if (not (is_above (rdns_above (dn_in v.suffix) superior) above)) 53

-- another entry below the same parent shows this RDN
abbrev pub is_other : Uid → Option Uid → Bool
is_other u None = false
is_other u (Some w) = not (uid_eq w u)

abbrev pub is_shown_beside : DirectoryView → Uid → Rdn → Option Uid → Bool
is_shown_beside v u new None = false
is_shown_beside v u new (Some parent) = is_other u (child_of v parent new)

abbrev pub is_taken : DirectoryView → Uid → Rdn → Bool
is_taken v u new = is_shown_beside v u new (parent_of v u)

-- ---- the values of the old name

abbrev pub parts : Option Rdn → List Ava
parts None = []
parts (Some rdn) = rdn.avas

-- The values that go: those of the entry's own name that are not in the new one. (Its own name is not what it
-- shows where it lost that name.)
abbrev pub dropped_parts : DirectoryView → Uid → Bool → Rdn → List Ava
dropped_parts v u delete_old new =
    if delete_old then filter (λ (a : Ava). not (is_in_name new a.attr a.val.key)) (parts (name_of v u)) else []

abbrev pub is_dropped : List Ava → List ℕ → List ℕ → Bool
is_dropped dropped name key = list_any (λ (a : Ava). bytes_eq a.attr.name name && bytes_eq a.val.key key) dropped

-- ---- single-valued types

-- a value of the part's attribute, other than the part's own, that stays
abbrev pub stays_beside : List Ava → Ava → Val → Bool
stays_beside dropped a v = not (bytes_eq v.key a.val.key) && not (is_dropped dropped a.attr.name v.key)

abbrev pub has_another : List Ava → Ava → Shown → Bool
has_another dropped a s = bytes_eq s.attr.name a.attr.name && list_any (stays_beside dropped a) s.vals

-- with this part of the new name a single-valued type would have more than one value (RFC 4512, section 4.1.2)
abbrev pub is_second : List Shown → List Ava → Ava → Bool
is_second own dropped a = is_single a.attr.name && list_any (has_another dropped a) own

-- the values that a present entry shows, without the derived ones
abbrev pub own_values : DirectoryView → Uid → List Shown
own_values v u = unwrap_or (own_of v u) []

-- ---- the cases, in their order: the entry that is to have another name, by the RDNs of its name above the suffix

unfoldable pub rename_made : DirectoryView → List ℕ → Bool → Option (List ℕ) → List Rdn → Result (Uid × Body) LdapResult
rename_made v new_rdn delete_old new_superior rdns =
    refuse_if (is_empty rdns) 53 >>= λ _.
    entry_at v rdns >>= λ u.
    read_new new_rdn >>= λ new.
    stays_below v (drop 1 rdns) new_superior >>= λ _.
    refuse_if (list_any is_derived_ava new.avas) 64 >>= λ _.
    refuse_if (is_taken v u new) 68 >>= λ _.
    let dropped = dropped_parts v u delete_old new in
    refuse_if (list_any (is_second (own_values v u) dropped) new.avas) 19 >>= λ _.
    Ok (u, Ren new dropped)

-- the cases of all writes, those of a modify DN, and the last one
abbrev pub rename_verdict : DirectoryView → List Control → Identity → List ℕ → List ℕ → Bool → Option (List ℕ) → Result (Uid × Body) LdapResult
rename_verdict v controls bound object new_rdn delete_old new_superior =
    all_writes v.suffix controls bound object >>= rename_made v new_rdn delete_old new_superior >>= light_change
