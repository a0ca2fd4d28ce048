-- What printing and reading are to one another, and which names are told from their text.
use Rattle.std.specs.Prelude.{◌≡◌, ◌≢◌, true, List, [], ◌∷◌, None}
use Rattle.repl_data.specs.declared.change.Ava.{Ava}
use Rattle.repl_data.specs.declared.change.Rdn.{Rdn}
use Rattle.attr_keys.specs.Name.{bad_name}
use Rattle.attr_keys.specs.Table.{key_of, kind_of}
use Rattle.attr_keys.specs.Value.{bad_value, value_key}
use Rattle.dn_text.specs.declared.name.Dn.{Dn}
use Rattle.dn_text.specs.Reading.{comes_before}

-- A part whose attribute is the key of a name, and whose value is accepted and has the key of its spelling.
pub record IsReadablePart (a : Ava) : Type 0 where
  pub is_name : bad_name a.attr.name ≡ None
  pub attr : key_of a.attr.name ≡ a.attr.name
  pub accepted : bad_value (kind_of a.attr.name) a.val.spelled ≡ None
  pub key : a.val.key ≡ value_key (kind_of a.attr.name) a.val.spelled

-- the attribute of the part is below those of all of these
abbrev pub IsBelowAll : Ava → List Ava → Type 0
IsBelowAll a [] = Unit {0}
IsBelowAll a (b ∷ bs) = (comes_before a b ≡ true) × IsBelowAll a bs

-- parts that can be read, in strictly rising order of attribute
abbrev pub AreReadableParts : List Ava → Type 0
AreReadableParts [] = Unit {0}
AreReadableParts (a ∷ more) = IsReadablePart a × IsBelowAll a more × AreReadableParts more

-- RDNs of one part at least, whose parts are such
abbrev pub AreReadable : List Rdn → Type 0
AreReadable [] = Unit {0}
AreReadable (r ∷ more) = (r.avas ≢ []) × AreReadableParts r.avas × AreReadable more

-- a name that can be told from its text
abbrev pub IsReadable : Dn → Type 0
IsReadable dn = AreReadable dn.rdns
