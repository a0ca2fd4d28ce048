-- Whom a bind names (RFC 4511, section 4.2), and how it ends.
use Rattle.std.specs.Prelude.{ℕ, Bool, true, false, not, ◌&&◌, pos, List, [], codes, if◌then◌else◌}
use Rattle.std.specs.Ordering.{int_eq}
use Rattle.repl_data.specs.Order.{bytes_eq}
use Rattle.repl_data.specs.Check.{is_empty}
use Rattle.ldap_types.specs.declared.reply.LdapResult.{LdapResult}
use Rattle.ldap_types.specs.declared.reply.Identity.{Identity}
use Rattle.ldap_types.specs.declared.reply.Identity.TheVariants.{Anonymous, Manager, Supplier}
use Rattle.ldap_types.specs.declared.request.BindRequest.{BindRequest}
use Rattle.ldap_types.specs.declared.request.Auth.{Auth}
use Rattle.ldap_types.specs.declared.request.Auth.TheVariants.{Simple, Sasl}
use Rattle.ldap_rules.specs.Case.{result_of}
use Rattle.dn_text.specs.Names.{is_readable, is_named}

-- the two names that may bind, and their passwords
abbrev pub manager_name : List ℕ
manager_name = codes "cn=manager"

abbrev pub manager_password : List ℕ
manager_password = codes "secret"

abbrev pub supplier_name : List ℕ
supplier_name = codes "cn=supplier"

abbrev pub supplier_password : List ℕ
supplier_password = codes "repl"

abbrev pub is_sasl : Auth → Bool
is_sasl (Simple password) = false
is_sasl Sasl = true

-- the password of a simple bind
abbrev pub password_of : Auth → List ℕ
password_of (Simple password) = password
password_of Sasl = []

abbrev pub unbound : ℕ → Identity × LdapResult
unbound number = (Anonymous, result_of number)

abbrev pub bound_as : Identity → Identity × LdapResult
bound_as identity = (identity, result_of 0)

-- THE CASES OF A BIND, in their order
abbrev pub bind_verdict : BindRequest → Identity × LdapResult
bind_verdict r =
    let password = password_of r.auth in
    if not (int_eq r.version (pos 3)) then unbound 2
    else if is_sasl r.auth then unbound 7
    else if is_empty r.name && is_empty password then bound_as Anonymous
    else if is_empty r.name then unbound 49
    else if is_empty password then unbound 53
    else if not (is_readable r.name) then unbound 34
    else if is_named manager_name r.name && bytes_eq password manager_password then bound_as Manager
    else if is_named supplier_name r.name && bytes_eq password supplier_password then bound_as Supplier
    else unbound 49
