-- The code of each refusal (RFC 4511, appendix A).
use Rattle.std.specs.Prelude.{ℕ}
use Rattle.rule_values.specs.declared.fault.Refusal.{Refusal}
use Rattle.rule_values.specs.declared.fault.Refusal.TheVariants as why

abbrev pub code_of : Refusal → ℕ
code_of why.UnknownKind = 2
code_of why.NoValue = 2
code_of why.NoModification = 2
code_of why.TooManyAttributes = 11
code_of why.TooManyModifications = 11
code_of why.NotHeld = 16
code_of why.BadName = 17
code_of why.Derived = 19
code_of why.SecondValue = 19
code_of why.ListedTwice = 20
code_of why.HeldAlready = 20
code_of why.BadValue = 21
code_of why.NoClass = 65
code_of why.NameValueGone = 67
