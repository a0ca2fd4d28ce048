-- A COMPARE (RFC 4511, section 4.10): what is answered, first case that fits.
use Rattle.std.specs.Prelude.{ℕ, Bool, List, [], map, find, Option, Some, None, option_map, unwrap_or, Result, Ok, if◌then◌else◌}
use Rattle.std.specs.List.{list_any}
use Rattle.repl_data.specs.declared.csn.Uid.{Uid}
use Rattle.repl_data.specs.declared.change.AttrKey.{AttrKey}
use Rattle.repl_data.specs.declared.change.Val.{Val}
use Rattle.repl_data.specs.declared.change.Shown.{Shown}
use Rattle.repl_data.specs.declared.change.ShownEntry.{ShownEntry}
use Rattle.repl_data.specs.Order.{bytes_eq}
use Rattle.repl_data.specs.View.{DirectoryView, entry_of}
use Rattle.dn_text.specs.Reading.{dn_in}
use Rattle.ldap_types.specs.declared.request.Control.{Control}
use Rattle.ldap_types.specs.declared.reply.LdapResult.{LdapResult}
use Rattle.rule_values.specs.Listed.{read_name, read_value}
use Rattle.ldap_rules.specs.Case.{◌>>=◌, result_of, refuse, refuse_if, coded}
use Rattle.dn_text.specs.Names.{rdns_above, entry_at, read_object, within}

-- ---- an entry as it shows, by the keys of its values: those of an attribute, where it has that attribute

abbrev pub ShownKeys : Type 0
ShownKeys = AttrKey → Option (List (List ℕ))

-- what is shown of an entry, derived attributes and classes included
abbrev pub keys_in : List Shown → ShownKeys
keys_in shown t = option_map (λ (s : Shown). map (λ (v : Val). v.key) s.vals) (find (λ (s : Shown). bytes_eq s.attr.name t.name) shown)

abbrev pub shown_at : DirectoryView → Uid → List Shown
shown_at v u = unwrap_or (option_map (λ (e : ShownEntry). e.attrs) (entry_of v u)) []

-- ---- an entry that is there

abbrev pub there : Option (List (List ℕ)) → Result (List (List ℕ)) LdapResult
there None = refuse 16
there (Some keys) = Ok keys

-- compareTrue where the key is shown, else compareFalse
abbrev pub told : List ℕ → List (List ℕ) → LdapResult
told key keys = result_of (if list_any (bytes_eq key) keys then 6 else 5)

unfoldable pub compared : ShownKeys → List ℕ → List ℕ → Result LdapResult LdapResult
compared shown name value =
    coded (read_name name) >>= λ attr.
    there (shown attr) >>= λ keys.
    coded (read_value attr value) >>= λ v.
    Ok (told v.key keys)

-- ---- the cases, in their order

abbrev pub is_critical : Control → Bool
is_critical c = c.critical

unfoldable pub compare_verdict : DirectoryView → List Control → List ℕ → List ℕ → List ℕ → Result LdapResult LdapResult
compare_verdict v controls object name value =
    refuse_if (list_any is_critical controls) 12 >>= λ _.
    read_object (dn_in object) >>= λ dn.
    within (rdns_above (dn_in v.suffix) dn) >>= λ rdns.
    entry_at v rdns >>= λ u.
    compared (keys_in (shown_at v u)) name value
