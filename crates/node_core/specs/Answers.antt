-- What a client is answered to a write, besides what the rules say (RFC 4511, appendix A).
use Rattle.std.specs.Prelude.{[], codes}
use Rattle.ldap_types.specs.declared.reply.LdapResult.{LdapResult}

-- 53 unwillingToPerform, where there is no CSN above the last one
abbrev pub used_up : LdapResult
used_up = record { code = record { number = 53 }; matched = []; text = codes "csn space used up" }
