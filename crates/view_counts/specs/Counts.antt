-- HOW MANY ENTRIES of each kind a view has.
use Rattle.std.specs.Prelude.{◌≡◌, ℕ, ◌+◌, ◌≤◌, Bool, if◌then◌else◌, length}
use Rattle.repl_data.specs.View.{DirectoryView, glue_count, conflict_count}
use Rattle.urp_tree.specs.Moves.{HasRisingPresent, HasRisingGone}
use Rattle.view_counts.specs.declared.counts.ViewCounts.{ViewCounts}

-- THE COUNTS OF A VIEW: its present entries, those of them that are glue, those that lost their name, and its tombstones
abbrev pub counts_of : DirectoryView → ViewCounts
counts_of v = record { present = length v.present; glue = glue_count v; conflict = conflict_count v; tombstone = length v.gone }

-- ---- how such numbers are joined

abbrev pub one_if : Bool → ℕ
one_if b = if b then 1 else 0

abbrev pub nothing : ViewCounts
nothing = record { present = 0; glue = 0; conflict = 0; tombstone = 0 }

abbrev pub plus : ViewCounts → ViewCounts → ViewCounts
plus a b = record {
  present = a.present + b.present;
  glue = a.glue + b.glue;
  conflict = a.conflict + b.conflict;
  tombstone = a.tombstone + b.tombstone;
}

-- each is at most as many
pub record IsWithin (a b : ViewCounts) : Type 0 where
  pub present : a.present ≤ b.present
  pub glue : a.glue ≤ b.glue
  pub conflict : a.conflict ≤ b.conflict
  pub tombstone : a.tombstone ≤ b.tombstone

-- ---- what is kept beside a view

-- its entries stand in rising order of id, each once, and these are its counts
pub record IsCounted (v : DirectoryView) (n : ViewCounts) : Type 0 where
  pub present : HasRisingPresent v.present
  pub gone : HasRisingGone v.gone
  pub counts : n ≡ counts_of v
