-- ADD (RFC 4511, section 4.7): what becomes of it, first case that fits.
use Rattle.std.specs.Prelude.{ℕ, List, [], ◌∷◌, is_some, Result, Ok}
use Rattle.std.specs.List.{list_any}
use Rattle.repl_data.specs.declared.change.Rdn.{Rdn}
use Rattle.repl_data.specs.declared.change.Body.{Body}
use Rattle.repl_data.specs.declared.change.Body.TheVariants.{Add}
use Rattle.repl_data.specs.Types.{is_derived_ava}
use Rattle.repl_data.specs.View.{DirectoryView, child_of}
use Rattle.ldap_types.specs.declared.request.Control.{Control}
use Rattle.ldap_types.specs.declared.request.RawAttr.{RawAttr}
use Rattle.ldap_types.specs.declared.reply.Identity.{Identity}
use Rattle.ldap_types.specs.declared.reply.LdapResult.{LdapResult}
use Rattle.rule_values.specs.Listed.{entry_attributes}
use Rattle.ldap_rules.specs.Case.{◌>>=◌, refuse, refuse_if, coded}
use Rattle.dn_text.specs.Names.{entry_at}
use Rattle.ldap_rules.specs.Writes.{all_writes, not_too_heavy}

-- the cases, in their order
unfoldable pub add_body : DirectoryView → List RawAttr → List Rdn → Result Body LdapResult
add_body v given [] = refuse 68
add_body v given (rdn ∷ above) =
    refuse_if (list_any is_derived_ava rdn.avas) 64 >>= λ _.
    entry_at v above >>= λ parent.
    refuse_if (is_some (child_of v parent rdn)) 68 >>= λ _.
    coded (entry_attributes rdn given) >>= λ attrs.
    Ok (Add parent rdn attrs)

-- the cases of all writes, those of an add, and the last one
abbrev pub add_verdict : DirectoryView → List Control → Identity → List ℕ → List RawAttr → Result Body LdapResult
add_verdict v controls bound object given = all_writes v.suffix controls bound object >>= add_body v given >>= not_too_heavy
