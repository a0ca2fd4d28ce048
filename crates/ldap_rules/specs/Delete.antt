-- A DELETE (RFC 4511, section 4.8): what becomes of it, first case that fits.
use Rattle.std.specs.Prelude.{ℕ, not, List, Result, Ok}
use Rattle.repl_data.specs.declared.csn.Uid.{Uid}
use Rattle.repl_data.specs.declared.change.Rdn.{Rdn}
use Rattle.repl_data.specs.declared.change.Body.{Body}
use Rattle.repl_data.specs.declared.change.Body.TheVariants.{Del}
use Rattle.repl_data.specs.Check.{is_empty}
use Rattle.repl_data.specs.View.{DirectoryView, children_of}
use Rattle.ldap_types.specs.declared.request.Control.{Control}
use Rattle.ldap_types.specs.declared.reply.Identity.{Identity}
use Rattle.ldap_types.specs.declared.reply.LdapResult.{LdapResult}
use Rattle.ldap_rules.specs.Case.{◌>>=◌, refuse_if}
use Rattle.dn_text.specs.Names.{entry_at}
use Rattle.ldap_rules.specs.Writes.{all_writes, light_change}

-- the cases, in their order: the entry that is to go, by the RDNs of its name above the suffix
unfoldable pub delete_made : DirectoryView → List Rdn → Result (Uid × Body) LdapResult
delete_made v rdns =
    refuse_if (is_empty rdns) 53 >>= λ _.
    entry_at v rdns >>= λ u.
    refuse_if (not (is_empty (children_of v u))) 66 >>= λ _.
    Ok (u, Del)

-- the cases of all writes, those of a delete, and the last one
abbrev pub delete_verdict : DirectoryView → List Control → Identity → List ℕ → Result (Uid × Body) LdapResult
delete_verdict v controls bound object = all_writes v.suffix controls bound object >>= delete_made v >>= light_change
