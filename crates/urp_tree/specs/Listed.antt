-- THE CHILDREN OF AN ENTRY, name by name and by the names that they show.
use Rattle.std.specs.Prelude.{◌≡◌, ℕ, ◌≤◌, List, [], ◌∷◌, ◌++◌, map, length, Option, Some, None}
use Rattle.std.specs.BTreeMap.{BTreeMap}
use Rattle.repl_data.specs.declared.csn.Uid.{Uid}
use Rattle.repl_data.specs.declared.change.Rdn.{Rdn}
use Rattle.repl_data.specs.Order.{rdn_key}
use Rattle.repl_data.specs.Facts.{EntryFacts}
use Rattle.repl_data.specs.Presence.{present_of}
use Rattle.repl_data.specs.Names.{shown_rdn}
use Rattle.urp_names.specs.Contending.{Contending, id_of}
use Rattle.urp_tree.specs.declared.row.Row.{Row}
use Rattle.urp_tree.specs.Rows.{row_at, facts_in}

-- those who contend for some names, name by name
abbrev pub ids_in : List (Rdn × Contending) → List Uid
ids_in [] = []
ids_in (e ∷ es) = map id_of e.1.who ++ ids_in es

-- at most one contends for the name
abbrev pub IsAlone : Rdn × Contending → Type 0
IsAlone e = length e.1.who ≤ 1

-- a child by what orders children: the key of the name that it shows, and its id
abbrev pub Kid : Type 0
Kid = List (List ℕ × List ℕ) × Uid

abbrev pub kid_key : Rdn × Uid → Kid
kid_key k = (rdn_key k.0, k.1)

abbrev pub kids_of : List EntryFacts → Uid → Option Row → List Kid
kids_of present u None = []
kids_of present u (Some r) = (rdn_key (shown_rdn present r.entry), u) ∷ []

abbrev pub kids_at : BTreeMap Uid (Option Row) → Uid → List Kid
kids_at rows u = kids_of (present_of (facts_in rows.entries)) u (row_at rows u)
