-- A list of cases, of which the first that fits answers.
use Rattle.std.specs.Prelude.{ℕ, Bool, Result, Ok, Err, if◌then◌else◌}
use Rattle.rule_values.specs.declared.fault.Refusal.{Refusal}
use Rattle.rule_values.specs.Codes.{code_of}
use Rattle.ldap_types.specs.declared.reply.LdapResult.{LdapResult}
pub use Rattle.rule_values.specs.Refusing.{◌>>=◌}
pub use Rattle.dn_text.specs.Case.{result_of, no_such_object, refuse, Fails, Gives}

abbrev pub refuse_if : Bool → ℕ → Result (Unit {0}) LdapResult
refuse_if fits number = if fits then refuse number else Ok tt

-- the cases of attributes and values, each with the code that tells it
abbrev pub coded : {A : Type 0} → Result A Refusal → Result A LdapResult
coded (Ok x) = Ok x
coded (Err why) = refuse (code_of why)
