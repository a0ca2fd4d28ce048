-- What stands where a chain of cases refuses nothing.
use Rattle.std.proofs.Common.{◌≡◌, ℕ, Bool, true, false, Result, Ok, Err, refl, ap}
use Rattle.ldap_types.specs.declared.reply.LdapResult.{LdapResult}
use Rattle.rule_values.specs.declared.fault.Refusal.{Refusal}
use Rattle.rule_values.specs.Refusing as values
use Rattle.ldap_rules.specs.Case.{◌>>=◌, refuse_if, coded}

pub by_pass : {A B E G : Type 0} (r : Result A E) (f : A → Result B E) (y : B) → (r >>= f) ≡ Ok y → ((a : A) → r ≡ Ok a → f a ≡ Ok y → G) → G
by_pass (Ok a) f y h g = g a refl h
by_pass (Err e) f y h g = let n : ⊥ = cc in absurd n

abbrev done : Unit {0}
done = tt

pub by_free : {A G : Type 0} (b : Bool) (n : ℕ) (f : Unit {0} → Result A LdapResult) (y : A) → (refuse_if b n >>= f) ≡ Ok y → (b ≡ false → f done ≡ Ok y → G) → G
by_free true n f y h g = let n : ⊥ = cc in absurd n
by_free false n f y h g = g refl h

-- the same of a case of values
pub by_fit : {A G : Type 0} (b : Bool) (why : Refusal) (f : Unit {0} → Result A Refusal) (y : A) → (values.refuse_if b why >>= f) ≡ Ok y → (b ≡ false → f done ≡ Ok y → G) → G
by_fit true why f y h g = let n : ⊥ = cc in absurd n
by_fit false why f y h g = g refl h

-- what is coded is what the cases of values give
pub by_code : {A G : Type 0} (r : Result A Refusal) (y : A) → coded r ≡ Ok y → (r ≡ Ok y → G) → G
by_code (Ok x) y h g = let e : x ≡ y = cc in g (ap Ok e)
by_code (Err why) y h g = let n : ⊥ = cc in absurd n

pub same_ok : {A E : Type 0} (x y : A) → ◌≡◌ {A = Result A E} (Ok x) (Ok y) → x ≡ y
same_ok x y h = cc
