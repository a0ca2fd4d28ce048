-- Keys of attributes and values, as the reader of an update computes them from their spellings.
use Rattle.std.specs.Prelude.{◌≡◌, ℕ, ◌+◌, List, [], ◌∷◌, Option, Some, None, Result, Ok}
use Rattle.attr_keys.specs.Name.{bad_name}
use Rattle.attr_keys.specs.Table.{key_of, kind_of}
use Rattle.attr_keys.specs.Value.{bad_value, value_key}
use Rattle.repl_data.specs.declared.change.AttrKey.{AttrKey}
use Rattle.repl_data.specs.declared.change.Val.{Val}
use Rattle.repl_data.specs.declared.change.Ava.{Ava}
use Rattle.repl_data.specs.declared.change.Attr.{Attr}
use Rattle.repl_data.specs.declared.change.Mod.{Mod}
use Rattle.repl_data.specs.declared.change.Body.{Body}
use Rattle.repl_data.specs.declared.change.Body.TheVariants as body
use Rattle.repl_data.specs.declared.change.Update.{Update}
use Rattle.repl_wire.specs.declared.fault.WireFault.{WireFault}
use Rattle.repl_wire.specs.declared.fault.WireWhy.TheVariants as why
use Rattle.repl_wire.specs.Fault.{◌>>=◌, bad}

-- ---- computed

abbrev pub named : ℕ → List ℕ → Option ℕ → Result AttrKey WireFault
named at name None = Ok (record { name = key_of name })
named at name (Some place) = bad at why.Key

-- the key of an attribute name; a fault names the number of the attribute
unfoldable pub attr_key : ℕ → List ℕ → Result AttrKey WireFault
attr_key at name = named at name (bad_name name)

abbrev pub valued : ℕ → AttrKey → List ℕ → Option ℕ → Result Val WireFault
valued at attr spelled None = Ok (record { key = value_key (kind_of attr.name) spelled; spelled = spelled })
valued at attr spelled (Some place) = bad at why.Key

-- a value of this attribute with its key
unfoldable pub val_of : ℕ → AttrKey → List ℕ → Result Val WireFault
val_of at attr spelled = valued at attr spelled (bad_value (kind_of attr.name) spelled)

-- one after the other, each with its number
unfoldable pub each_from : {A B : Type 0} → (ℕ → A → Result B WireFault) → ℕ → List A → Result (List B) WireFault
each_from piece at [] = Ok []
each_from piece at (x ∷ xs) = piece at x >>= λ y. each_from piece (at + 1) xs >>= λ ys. Ok (y ∷ ys)

-- the values of this attribute
abbrev pub vals_of : ℕ → AttrKey → List (List ℕ) → Result (List Val) WireFault
vals_of at attr spelled = each_from (λ i s. val_of at attr s) 0 spelled

-- ---- carried

-- P holds of each of them
abbrev pub Every : {A : Type 0} → (A → Type 0) → List A → Type 0
Every P [] = Unit {0}
Every P (x ∷ xs) = P x × Every P xs

-- the name is the key of a name
pub record IsKey (attr : AttrKey) : Type 0 where
  pub is_name : bad_name attr.name ≡ None
  pub own : key_of attr.name ≡ attr.name

-- the value is accepted, and has the key of its spelling
pub record HasKey (attr : AttrKey) (v : Val) : Type 0 where
  pub accepted : bad_value (kind_of attr.name) v.spelled ≡ None
  pub key : v.key ≡ value_key (kind_of attr.name) v.spelled

abbrev pub AreKeyed : AttrKey → List Val → Type 0
AreKeyed attr vals = IsKey attr × Every (HasKey attr) vals

abbrev pub IsKeyedPart : Ava → Type 0
IsKeyedPart a = IsKey a.attr × HasKey a.attr a.val

-- each attribute's key is the key of a name, and each value's that of its spelling
abbrev pub HasKeys : Body → Type 0
HasKeys (body.Add parent rdn attrs) = Every IsKeyedPart rdn.avas × Every (λ (a : Attr). AreKeyed a.attr a.vals) attrs
HasKeys (body.Mod mods) = Every (λ (m : Mod). AreKeyed m.attr m.vals) mods
HasKeys (body.Ren rdn dropped) = Every IsKeyedPart rdn.avas × Every IsKeyedPart dropped
HasKeys body.Del = Unit {0}

abbrev pub HasKeysOfSpellings : Update → Type 0
HasKeysOfSpellings u = HasKeys u.change.body
