-- What is written of modifications: each as it is, but of a single-valued type the last state alone.
use Rattle.std.specs.Prelude.{ℕ, Bool, List, [], ◌∷◌, if◌then◌else◌}
use Rattle.std.specs.List.{list_any}
use Rattle.repl_data.specs.declared.change.AttrKey.{AttrKey}
use Rattle.repl_data.specs.declared.change.Val.{Val}
use Rattle.repl_data.specs.declared.change.Mod.{Mod}
use Rattle.repl_data.specs.declared.change.ModKind.TheVariants.{Replace}
use Rattle.repl_data.specs.Order.{bytes_eq, foldr}
use Rattle.attr_keys.specs.Table.{is_single}

-- what an entry has: the values of each attribute, by its name
abbrev pub Values : Type 0
Values = List ℕ → List Val

-- whether one of the modifications is of this attribute
abbrev pub is_modified : AttrKey → List Mod → Bool
is_modified t mods = list_any (λ (m : Mod). bytes_eq m.attr.name t.name) mods

-- the attribute replaced by the values that the entry has at the end
abbrev pub replaced : Values → AttrKey → Mod
replaced has t = record { kind = Replace; attr = t; vals = has t.name }

-- one modification before what is written of the later ones: of a single-valued type it is left out where a later
-- one of the type stands, and else it is the replace with the final values
abbrev pub write_before : Values → Mod → List Mod → List Mod
write_before has m later =
    if is_single m.attr.name then (if is_modified m.attr later then later else replaced has m.attr ∷ later)
    else m ∷ later

-- the modifications in their order
abbrev pub written : Values → List Mod → List Mod
written has = foldr (write_before has) []
