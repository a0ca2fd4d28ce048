-- Results of cases that refuse a request.
use Rattle.std.specs.Prelude.{◌≡◌, ℕ, List, [], Result, Ok, Err}
use Rattle.ldap_types.specs.declared.reply.LdapResult.{LdapResult}
use Rattle.dn_text.specs.declared.fault.JudgeFault.{JudgeFault}
use Rattle.dn_text.specs.declared.fault.JudgeFault.TheVariants.{NoMemory, Refused}

-- a result of this code (RFC 4511, appendix A) that says no more
abbrev pub result_of : ℕ → LdapResult
result_of number = record { code = record { number = number }; matched = []; text = [] }

-- `noSuchObject`, with the name of the nearest entry that is there
abbrev pub no_such_object : List ℕ → LdapResult
no_such_object matched = record (result_of 32) { matched = matched }

-- this case fits: it answers, and no later case is looked at
abbrev pub refuse : {A : Type 0} → ℕ → Result A LdapResult
refuse number = Err (result_of number)

-- the refusal that the code tells is that of the cases, unless memory ran out
abbrev pub Fails : {A : Type 0} → JudgeFault → Result A LdapResult → Type 0
Fails NoMemory cases = Unit {0}
Fails (Refused r) cases = cases ≡ Err r

-- what the code gives is what the cases give, unless memory ran out
abbrev pub Gives : {A : Type 0} → Result A JudgeFault → Result A LdapResult → Type 0
Gives (Ok x) cases = cases ≡ Ok x
Gives (Err e) cases = Fails e cases
