-- When a keeper may answer a fault, and what a keeper that tells its rows tells.
use Rattle.std.specs.Prelude.{◌≡◌, ℕ, ◌≤◌, List, Option, Some, None, Result, Ok, Err}
use Rattle.io_edge.specs.Causes.{Rose}
use Rattle.keeper_core.specs.declared.keeper.KeepFault.{KeepFault}
use Rattle.keeper_core.specs.declared.keeper.KeepFault.TheVariants.{NoMemory, Failed}
use Rattle.keeper_core.specs.declared.row.Row.{Row}
use Rattle.keeper_core.specs.declared.row.BatchStep.{BatchStep}
use Rattle.keeper_core.specs.Rows.{IsRising, after_batch}

-- what holds where the call failed for another cause than memory
abbrev pub OnFailed : {T : Type 0} → Result T KeepFault → Type 0 → Type 0
OnFailed (Ok x) P = Unit {0}
OnFailed (Err NoMemory) P = Unit {0}
OnFailed (Err Failed) P = P

-- the count of faults did not fall, and rose if the call failed for another cause than memory
pub record HasCause {T : Type 0} (before now : ℕ) (result : Result T KeepFault) : Type 0 where
  pub later : before ≤ now
  pub failed : OnFailed result (Rose before now)

-- where the rows are told now, they were told before, and are those that the batch leaves
abbrev pub Leaves : Option (List Row) → Option (List Row) → List BatchStep → Type 0
Leaves before None batch = Unit {0}
Leaves None (Some rows) batch = ⊥
Leaves (Some before) (Some rows) batch = rows ≡ after_batch before batch

-- where the rows are told now, they are those that were told before
abbrev pub Stays : Option (List Row) → Option (List Row) → Type 0
Stays before None = Unit {0}
Stays before (Some rows) = before ≡ Some rows

-- these are the rows that the batch leaves of those that were told
abbrev pub AreLeftOf : Option (List Row) → List BatchStep → List Row → Type 0
AreLeftOf None batch rows = ⊥
AreLeftOf (Some before) batch rows = rows ≡ after_batch before batch

-- these are the rows, where they are told
abbrev pub AreTold : Option (List Row) → List Row → Type 0
AreTold None rows = Unit {0}
AreTold (Some told) rows = rows ≡ told

-- what is read is in rising order of key, and, where the rows are told, it is these
pub record Reads (told : Option (List Row)) (rows : List Row) : Type 0 where
  pub rising : IsRising rows
  pub these : AreTold told rows
