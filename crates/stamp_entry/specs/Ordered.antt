-- ORDER: attributes stand in rising order of name, and values in rising order of key.
use Rattle.std.specs.Prelude.{ℕ, List}
use Rattle.std.specs.List.{AllByRecursion}
use Rattle.repl_data.specs.Ordered.{Rises}
use Rattle.repl_data.specs.Facts.{ValFacts, AttrFacts, EntryFacts}

abbrev pub val_key : ValFacts → List ℕ
val_key v = v.key

abbrev pub attr_name : AttrFacts → List ℕ
attr_name a = a.attr.name

-- the values of an attribute rise
abbrev pub HasRisingVals : AttrFacts → Type 0
HasRisingVals a = Rises val_key a.vals

-- attributes rise, and so do the values of each
abbrev pub AreOrdered : List AttrFacts → Type 0
AreOrdered attrs = Rises attr_name attrs × AllByRecursion HasRisingVals attrs

abbrev pub IsOrdered : EntryFacts → Type 0
IsOrdered e = AreOrdered e.attrs
