-- When names and values are equal: where their keys are.
use Rattle.std.specs.Prelude.{◌≡◌, ℕ, List}
use Rattle.attr_keys.specs.declared.kind.Kind.{Kind}
use Rattle.attr_keys.specs.Table.{key_of}
use Rattle.attr_keys.specs.Value.{value_key}

abbrev pub AreEqualNames : List ℕ → List ℕ → Type 0
AreEqualNames a b = key_of a ≡ key_of b

abbrev pub AreEqualValues : Kind → List ℕ → List ℕ → Type 0
AreEqualValues kind a b = value_key kind a ≡ value_key kind b
