-- A stream as a session knows it.
use Rattle.std.specs.Prelude.{ℕ, List, Option}

-- what is left to be read and what was written, where that is told, and the counts of faults of the two sides
pub record Sides : Type 0 where
  pub left : Option (List ℕ)
  pub contents : Option (List ℕ)
  pub read_faults : ℕ
  pub write_faults : ℕ

abbrev pub sides : Option (List ℕ) → Option (List ℕ) → ℕ → ℕ → Sides
sides left contents read_faults write_faults = record { left = left; contents = contents; read_faults = read_faults; write_faults = write_faults }
