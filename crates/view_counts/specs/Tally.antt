-- WHAT SINGLE ENTRIES COUNT, in a view, and after a change that is told.
use Rattle.std.specs.Prelude.{Bool, not, List, fold, Option, Some, None, is_some, is_none, option_map}
use Rattle.repl_data.specs.declared.csn.Uid.{Uid}
use Rattle.repl_data.specs.declared.change.Rdn.{Rdn}
use Rattle.repl_data.specs.declared.view.Standing.{Standing}
use Rattle.repl_data.specs.Order.{same_rdn}
use Rattle.repl_data.specs.View.{DirectoryView, gone_at}
use Rattle.repl_data.specs.Lent.{standing_of}
use Rattle.urp_tree.specs.declared.changed.Changed.{Changed}
use Rattle.view_counts.specs.declared.counts.ViewCounts.{ViewCounts}
use Rattle.view_counts.specs.Counts.{one_if, nothing, plus}

-- an entry that stands so among the present ones, if it is one of them, and is a tombstone or none
abbrev pub entry_counts : Option Standing → Bool → ViewCounts
entry_counts None gone = record { present = 0; glue = 0; conflict = 0; tombstone = one_if gone }
entry_counts (Some s) gone = record { present = 1; glue = one_if s.glue; conflict = one_if s.lost; tombstone = one_if gone }

-- the entry of an id
abbrev pub counted_in : DirectoryView → Uid → ViewCounts
counted_in v u = entry_counts (standing_of v u) (is_some (gone_at v u))

-- an entry that changes, after the change
abbrev pub told_standing : Changed → Option Standing
told_standing c = option_map (λ (shown : Rdn). record { glue = c.glue; lost = not (same_rdn c.name shown) }) c.after

abbrev pub counted_after : Changed → ViewCounts
counted_after c = entry_counts (told_standing c) (is_none c.after)

-- all of them together
abbrev pub total : (Changed → ViewCounts) → List Changed → ViewCounts
total f cs = fold (λ n c. plus n (f c)) nothing cs
