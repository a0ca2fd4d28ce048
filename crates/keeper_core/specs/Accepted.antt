-- The batches that a keeper accepted, one after the other, since it was made.
use Rattle.std.specs.Prelude.{◌≡◌, ◌-◌, ◌^◌, min, length, List, [], ◌∷◌, Option, Some, None}
use Rattle.keeper_core.specs.declared.row.Row.{Row}
use Rattle.keeper_core.specs.declared.row.BatchStep.{BatchStep}
use Rattle.keeper_core.specs.Rows.{after_batch}
use Rattle.keeper_core.specs.Memory.{MapState}

-- the rows that batches leave, taken one after the other
abbrev pub after_batches : List Row → List (List BatchStep) → List Row
after_batches rows [] = rows
after_batches rows (batch ∷ batches) = after_batches (after_batch rows batch) batches

-- told rows are those that the batches leave where there was none
abbrev pub AreLeft : Option (List Row) → List (List BatchStep) → Type 0
AreLeft None batches = Unit {0}
AreLeft (Some rows) batches = rows ≡ after_batches [] batches

-- a keeper in memory accepted these batches: its rows are what they leave, and their number is its count,
-- which stands still at its last number
pub record HasAccepted (s : MapState) (batches : List (List BatchStep)) : Type 0 where
  pub left : s.rows ≡ after_batches [] batches
  pub count : s.kept ≡ min (length batches) (2 ^ 64 - 1)
