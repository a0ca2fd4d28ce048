-- A keeper in memory as contracts see it.
use Rattle.std.specs.Prelude.{ℕ, List, []}
use Rattle.io_edge.specs.Causes.{next_count}
use Rattle.keeper_core.specs.declared.row.Row.{Row}
use Rattle.keeper_core.specs.declared.row.BatchStep.{BatchStep}
use Rattle.keeper_core.specs.Rows.{after_batch}

pub record MapState : Type 0 where
  -- the rows, in rising order of key
  pub rows : List Row
  -- the numbers of the batches and of the reads that fail, each counted from 1
  pub failing_batches : List ℕ
  pub failing_reads : List ℕ
  -- how many batches were kept
  pub kept : ℕ
  -- how many batches and how many reads came, and how many of both failed
  pub batches : ℕ
  pub reads : ℕ
  pub faults : ℕ

-- a keeper without rows that was not called yet
abbrev pub empty_map : List ℕ → List ℕ → MapState
empty_map failing_batches failing_reads =
    record { rows = []; failing_batches = failing_batches; failing_reads = failing_reads; kept = 0; batches = 0; reads = 0; faults = 0 }

-- what a batch leaves that is kept, one for which there was no memory, and one that failed
abbrev pub after_put : MapState → List BatchStep → MapState
after_put s batch = record s { rows = after_batch s.rows batch; kept = next_count s.kept; batches = next_count s.batches }

abbrev pub after_short_put : MapState → MapState
after_short_put s = record s { batches = next_count s.batches }

abbrev pub after_failed_put : MapState → MapState
after_failed_put s = record s { batches = next_count s.batches; faults = next_count s.faults }

-- what a read leaves, and a read that failed
abbrev pub after_read : MapState → MapState
after_read s = record s { reads = next_count s.reads }

abbrev pub after_failed_read : MapState → MapState
after_failed_read s = record s { reads = next_count s.reads; faults = next_count s.faults }
