-- What an entry shows, told of the user attributes as they are kept to be shown.
use Rattle.std.specs.Prelude.{ℕ, Bool, false, List, [], ◌∷◌, ◌++◌, flat_map, codes, Option, if◌then◌else◌}
use Rattle.repl_data.specs.declared.csn.Uid.{Uid}
use Rattle.repl_data.specs.declared.change.Val.{Val}
use Rattle.repl_data.specs.declared.change.Shown.{Shown}
use Rattle.repl_data.specs.Order.{bytes_cmp, bytes_eq, put_by, in_order_by}
use Rattle.repl_data.specs.View.{key_named, put_val, glue_class, tombstone_class, id_val, operational, conflicts}

-- the values of the attribute of this name
abbrev pub vals_in : List ℕ → List Shown → List Val
vals_in name users = flat_map (λ (s : Shown). if bytes_eq s.attr.name name then s.vals else []) users

abbrev pub put_shown : Shown → List Shown → List Shown
put_shown = put_by (λ (s : Shown). s.attr.name) bytes_cmp

-- one class more
abbrev pub classed : Val → List Shown → List Shown
classed class users =
    put_shown (record { attr = key_named (codes "objectclass"); vals = put_val class (vals_in (codes "objectclass") users); operational = false }) users

-- all, in order of name
abbrev pub in_name_order : List Shown → List Shown
in_name_order = in_order_by (λ (s : Shown). s.attr.name) bytes_cmp

unfoldable pub present_attrs : Uid → Bool → Option (List ℕ) → List Shown → List Shown
present_attrs id glue lost users =
    in_name_order
    ((operational (codes "nsuniqueid") (id_val id ∷ []) ++ operational (codes "nsds5replconflict") (conflicts glue lost))
    ++ (if glue then classed glue_class users else users))

unfoldable pub gone_attrs : Uid → Uid → List Shown → List Shown
gone_attrs id parent users =
    in_name_order
    ((operational (codes "nsuniqueid") (id_val id ∷ []) ++ operational (codes "nsparentuniqueid") (id_val parent ∷ []))
    ++ classed tombstone_class users)
