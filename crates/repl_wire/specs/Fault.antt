-- Reading a message of a session, or telling the first fault in it.
use Rattle.std.specs.Prelude.{◌≡◌, ℕ, Result, Ok, Err}
use Rattle.ber_core.specs.Window.{Stop}
use Rattle.ber_core.specs.Window as reading
use Rattle.ber_core.specs.declared.fault.BerWhy.TheVariants as ber_why
use Rattle.ber_core.specs.declared.fault.ReadFault.{ReadFault}
use Rattle.ber_core.specs.declared.fault.ReadFault.TheVariants as read
use Rattle.ber_core.specs.declared.fault.NotLdapWhy.TheVariants as element_why
use Rattle.dn_text.specs.declared.fault.DnFault.{DnFault}
use Rattle.dn_text.specs.declared.fault.DnFault.TheVariants as dn
use Rattle.repl_wire.specs.declared.fault.WireFault.{WireFault}
use Rattle.repl_wire.specs.declared.fault.WireFault.TheVariants.{NoMemory, Bad}
use Rattle.repl_wire.specs.declared.fault.WireWhy.{WireWhy}
use Rattle.repl_wire.specs.declared.fault.WireWhy.TheVariants.{Value, Name}

infixl 10 ◌>>=◌
abbrev pub ◌>>=◌ : {A B : Type 0} → Result A WireFault → (A → Result B WireFault) → Result B WireFault
(Ok x) >>= f = f x
(Err e) >>= f = Err e

abbrev pub bad : {A : Type 0} → ℕ → WireWhy → Result A WireFault
bad place why = Err (Bad place why)

-- The fault of a value, of which all bytes are there. So nothing is ever missing (`wire_laws`): an element that
-- passes the end is too large.
abbrev pub in_value : {A : Type 0} → Result A Stop → Result A WireFault
in_value (Ok x) = Ok x
in_value (Err reading.More) = bad 0 (Value (element_why.Ber ber_why.TooLarge))
in_value (Err (reading.Fault place why)) = bad place (Value why)

-- the same of what the code tells
abbrev pub told : ReadFault → WireFault
told read.NoMemory = NoMemory
told read.More = Bad 0 (Value (element_why.Ber ber_why.TooLarge))
told (read.NotLdap place why) = Bad place (Value why)

-- the fault of an RDN's text
abbrev pub name_told : DnFault → WireFault
name_told dn.NoMemory = NoMemory
name_told (dn.BadDn place why) = Bad place (Name why)

-- the fault that the code tells is the one of the reading, unless memory ran out
abbrev pub Fails : {A : Type 0} → WireFault → Result A WireFault → Type 0
Fails NoMemory read = Unit {0}
Fails (Bad place why) read = read ≡ Err (Bad place why)

-- what the code gives is what the reading gives, unless memory ran out
abbrev pub Gives : {A : Type 0} → Result A WireFault → Result A WireFault → Type 0
Gives (Ok x) read = read ≡ Ok x
Gives (Err e) read = Fails e read
