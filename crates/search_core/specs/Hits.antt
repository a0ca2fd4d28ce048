-- WHAT IS ANSWERED of all that is found: no more than the size limit, and the attributes that are selected.
use Rattle.std.specs.Prelude.{ℕ, Bool, false, ◌&&◌, nat_lt, List, length, take, map, filter, Option, Some, None, if◌then◌else◌}
use Rattle.repl_data.specs.declared.csn.Uid.{Uid}
use Rattle.repl_data.specs.declared.change.ShownEntry.{ShownEntry}
use Rattle.repl_data.specs.View.{DirectoryView, entry_of, tombstone_of}
use Rattle.ldap_types.specs.declared.request.Filter.{Filter}
use Rattle.filter_truth.specs.Three.{is_yes}
use Rattle.filter_truth.specs.Truth.{truth}

-- the filter says Yes of what the entry shows
abbrev pub is_meant : Filter → ShownEntry → Bool
is_meant f e = is_yes (truth f e.attrs)

abbrev pub is_match : DirectoryView → Filter → Uid → Bool
is_match v f u = elim (entry_of v u) [ None ↦ false | Some e ↦ is_meant f e ]

-- and of what a tombstone shows
abbrev pub is_gone_match : DirectoryView → Filter → Uid → Bool
is_gone_match v f u = elim (tombstone_of v u) [ None ↦ false | Some e ↦ is_meant f e ]

-- a limit above 0 that is passed
abbrev pub is_over : {X : Type 0} → ℕ → List X → Bool
is_over limit all = nat_lt 0 limit && nat_lt limit (length all)

-- the first ones up to it
abbrev pub up_to : {X : Type 0} → ℕ → List X → List X
up_to limit all = if is_over limit all then take limit all else all
