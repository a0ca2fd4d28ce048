-- A MODIFY (RFC 4511, section 4.6): what becomes of it, first case that fits.
use Rattle.std.specs.Prelude.{ℕ, List, Result, Ok}
use Rattle.repl_data.specs.declared.csn.Uid.{Uid}
use Rattle.repl_data.specs.declared.change.Rdn.{Rdn}
use Rattle.repl_data.specs.declared.change.Body.{Body}
use Rattle.repl_data.specs.declared.change.Body.TheVariants.{Mod as ModifyEntry}
use Rattle.repl_data.specs.View.{DirectoryView, name_of}
use Rattle.ldap_types.specs.declared.request.Control.{Control}
use Rattle.ldap_types.specs.declared.request.RawMod.{RawMod}
use Rattle.ldap_types.specs.declared.reply.Identity.{Identity}
use Rattle.ldap_types.specs.declared.reply.LdapResult.{LdapResult}
use Rattle.rule_values.specs.Modify.{modifications}
use Rattle.ldap_rules.specs.Case.{◌>>=◌, coded}
use Rattle.dn_text.specs.Names.{entry_at}
use Rattle.ldap_rules.specs.Rename.{parts, own_values}
use Rattle.ldap_rules.specs.Writes.{all_writes, light_change}

-- the entry's own name, which it keeps the values of
abbrev pub own_name : DirectoryView → Uid → Rdn
own_name v u = record { avas = parts (name_of v u) }

-- the cases, in their order: the entry that is modified, by the RDNs of its name above the suffix, and of its own name
-- and its own values what the modifications make
unfoldable pub modify_made : DirectoryView → List RawMod → List Rdn → Result (Uid × Body) LdapResult
modify_made v given rdns =
    entry_at v rdns >>= λ u.
    coded (modifications (own_name v u) (own_values v u) given) >>= λ mods.
    Ok (u, ModifyEntry mods)

-- the cases of all writes, those of a modify, and the last one
abbrev pub modify_verdict : DirectoryView → List Control → Identity → List ℕ → List RawMod → Result (Uid × Body) LdapResult
modify_verdict v controls bound object given = all_writes v.suffix controls bound object >>= modify_made v given >>= light_change
