-- ALL WRITES: who may write, which entries a write may name, and how much it may weigh.
use Rattle.std.specs.Prelude.{ℕ, Bool, true, false, not, ◌&&◌, nat_lt, List, codes, Option, Some, None, Result, Ok, Err}
use Rattle.std.specs.List.{list_any}
use Rattle.repl_data.specs.declared.csn.Uid.{Uid}
use Rattle.repl_data.specs.declared.change.Rdn.{Rdn}
use Rattle.repl_data.specs.declared.change.Body.{Body}
use Rattle.repl_data.specs.Order.{bytes_eq}
use Rattle.repl_data.specs.Check.{greatest_weight, weight}
use Rattle.ldap_types.specs.declared.request.Control.{Control}
use Rattle.ldap_types.specs.declared.reply.Identity.{Identity}
use Rattle.ldap_types.specs.declared.reply.Identity.TheVariants.{Manager, Supplier}
use Rattle.ldap_types.specs.declared.reply.LdapResult.{LdapResult}
use Rattle.dn_text.specs.declared.name.Dn.{Dn}
use Rattle.dn_text.specs.declared.fault.DnFault.{DnFault}
use Rattle.dn_text.specs.Reading.{dn_in}
use Rattle.ldap_rules.specs.Case.{◌>>=◌, refuse, refuse_if}
use Rattle.dn_text.specs.Names.{rdns_above, read_object, within}

-- ---- who asks, and how

-- the control of an update that one server sends to another
abbrev pub is_update_control : Control → Bool
is_update_control c = bytes_eq c.oid (codes "2.999.389.3")

abbrev pub is_unknown : Control → Bool
is_unknown c = c.critical && not (is_update_control c)

abbrev pub is_manager : Identity → Bool
is_manager Manager = true
is_manager _ = false

abbrev pub is_supplier : Identity → Bool
is_supplier Supplier = true
is_supplier _ = false

-- ---- the cases, in their order: the RDNs of the name above the suffix, the entry's own first

-- the name's RDNs above the suffix, which the text spells
unfoldable pub all_writes : List ℕ → List Control → Identity → List ℕ → Result (List Rdn) LdapResult
all_writes suffix controls bound object =
    refuse_if (list_any is_unknown controls) 12 >>= λ _.
    refuse_if (list_any is_update_control controls && not (is_supplier bound)) 50 >>= λ _.
    refuse_if (not (is_manager bound)) 50 >>= λ _.
    read_object (dn_in object) >>= λ name.
    within (rdns_above (dn_in suffix) name)

-- ---- last for every write

abbrev pub not_too_heavy : Body → Result Body LdapResult
not_too_heavy body = refuse_if (nat_lt greatest_weight (weight body)) 11 >>= λ _. Ok body

-- a change of an entry that is there
abbrev pub light_change : Uid × Body → Result (Uid × Body) LdapResult
light_change change = not_too_heavy change.1 >>= λ body. Ok (change.0, body)
