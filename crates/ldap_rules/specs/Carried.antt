-- BODIES THAT CARRY THE KEYS OF THEIR SPELLINGS: each attribute's key is the one of its name, and each value's key
-- the one of its spelling. So who reads names and spellings alone finds the same keys.
use Rattle.std.specs.Prelude.{◌≡◌, List, None}
use Rattle.std.specs.List.{AllByRecursion}
use Rattle.repl_data.specs.declared.change.AttrKey.{AttrKey}
use Rattle.repl_data.specs.declared.change.Val.{Val}
use Rattle.repl_data.specs.declared.change.Attr.{Attr}
use Rattle.repl_data.specs.declared.change.Mod.{Mod}
use Rattle.repl_data.specs.declared.change.Body.{Body}
use Rattle.repl_data.specs.declared.change.Body.TheVariants.{Add, Mod as Modify, Ren, Del}
use Rattle.repl_data.specs.declared.change.Change.{Change}
use Rattle.attr_keys.specs.Name.{bad_name}
use Rattle.attr_keys.specs.Table.{key_of}
use Rattle.dn_text.specs.Laws.{IsReadablePart}

-- a name that can be read, and its own key
pub record IsOwnName (t : AttrKey) : Type 0 where
  pub is_name : bad_name t.name ≡ None
  pub attr : key_of t.name ≡ t.name

-- values of this attribute that are accepted, each with the key of its spelling
abbrev pub AreOwnVals : AttrKey → List Val → Type 0
AreOwnVals t vals = AllByRecursion (λ (v : Val). IsReadablePart (record { attr = t; val = v })) vals

abbrev pub CarriesKeys : Body → Type 0
CarriesKeys (Add parent rdn attrs) = AllByRecursion IsReadablePart rdn.avas × AllByRecursion (λ (a : Attr). IsOwnName a.attr × AreOwnVals a.attr a.vals) attrs
CarriesKeys (Modify mods) = AllByRecursion (λ (m : Mod). IsOwnName m.attr × AreOwnVals m.attr m.vals) mods
CarriesKeys (Ren rdn dropped) = AllByRecursion IsReadablePart rdn.avas × AllByRecursion IsReadablePart dropped
CarriesKeys Del = Unit {0}

-- all changes of a list do
abbrev pub AllCarryKeys : List Change → Type 0
AllCarryKeys = AllByRecursion (λ (c : Change). CarriesKeys c.body)
