-- Reading a name, or telling the first fault in it.
use Rattle.std.specs.Prelude.{◌≡◌, ℕ, Result, Ok, Err}
use Rattle.dn_text.specs.declared.fault.DnFault.{DnFault}
use Rattle.dn_text.specs.declared.fault.DnFault.TheVariants.{NoMemory, BadDn}
use Rattle.dn_text.specs.declared.fault.DnWhy.{DnWhy}

infixl 10 ◌>>=◌
abbrev pub ◌>>=◌ : {A B : Type 0} → Result A DnFault → (A → Result B DnFault) → Result B DnFault
(Ok x) >>= f = f x
(Err e) >>= f = Err e

abbrev pub bad : {A : Type 0} → ℕ → DnWhy → Result A DnFault
bad place why = Err (BadDn place why)

-- the fault that the code tells is the one of the reading, unless memory ran out
abbrev pub Fails : {A : Type 0} → DnFault → Result A DnFault → Type 0
Fails NoMemory read = Unit {0}
Fails (BadDn place why) read = read ≡ Err (BadDn place why)

-- what the code gives is what the reading gives, unless memory ran out
abbrev pub Gives : {A : Type 0} → Result A DnFault → Result A DnFault → Type 0
Gives (Ok x) read = read ≡ Ok x
Gives (Err e) read = Fails e read
