-- A list of cases, of which the first that fits refuses.
use Rattle.std.specs.Prelude.{◌≡◌, Bool, Result, Ok, Err, if◌then◌else◌}
use Rattle.rule_values.specs.declared.fault.Refusal.{Refusal}
use Rattle.rule_values.specs.declared.fault.ValueFault.{ValueFault}
use Rattle.rule_values.specs.declared.fault.ValueFault.TheVariants.{NoMemory, Refused}

-- this case fits: it refuses, and no later case is looked at
abbrev pub refuse_if : Bool → Refusal → Result (Unit {0}) Refusal
refuse_if fits why = if fits then Err why else Ok tt

infixl 10 ◌>>=◌
-- where none of the cases on the left fits, those on the right
abbrev pub ◌>>=◌ : {A B E : Type 0} → Result A E → (A → Result B E) → Result B E
(Ok x) >>= f = f x
(Err e) >>= f = Err e

-- the refusal that the code tells is that of the cases, unless memory ran out
abbrev pub Fails : {A : Type 0} → ValueFault → Result A Refusal → Type 0
Fails NoMemory cases = Unit {0}
Fails (Refused why) cases = cases ≡ Err why

-- what the code gives is what the cases give, unless memory ran out
abbrev pub Gives : {A : Type 0} → Result A ValueFault → Result A Refusal → Type 0
Gives (Ok x) cases = cases ≡ Ok x
Gives (Err e) cases = Fails e cases
