-- Sources and sinks in memory as contracts see them, and the answer to the next call.
use Rattle.std.specs.Prelude.{◌≡◌, ℕ, ◌⊎◌, List, [], ◌++◌, Contains, drop, length, min, take}
use Rattle.io_edge.specs.Causes.{next_count}

pub record SourceState : Type 0 where
  -- the bytes that have not been read
  pub left : List ℕ
  -- at most so many come in one call
  pub most : ℕ
  -- the numbers of the calls that fail, counted from 1
  pub failing : List ℕ
  -- how many calls came, and how many of them failed
  pub calls : ℕ
  pub faults : ℕ

pub record SinkState : Type 0 where
  -- the bytes that were written
  pub written : List ℕ
  -- so many bytes of its piece a failing call still takes
  pub kept : ℕ
  -- the numbers of the calls that fail, counted from 1
  pub failing : List ℕ
  -- how many calls came, and how many of them failed
  pub calls : ℕ
  pub faults : ℕ

-- a source of these bytes that was not called yet
abbrev pub source_of : List ℕ → List ℕ → ℕ → SourceState
source_of bytes failing most = record { left = bytes; most = most; failing = failing; calls = 0; faults = 0 }

-- an empty sink that was not called yet
abbrev pub empty_sink : List ℕ → ℕ → SinkState
empty_sink failing kept = record { written = []; kept = kept; failing = failing; calls = 0; faults = 0 }

-- the call after so many calls is one of those that fail
abbrev pub NextFails : List ℕ → ℕ → Type 0
NextFails failing calls = Contains failing (next_count calls)

-- how many bytes a read that does not fail hands over to a buffer of this length
abbrev pub read_len : SourceState → ℕ → ℕ
read_len s room = min (min (length s.left) s.most) room

-- what a read that hands over n bytes leaves
abbrev pub after_read : SourceState → ℕ → SourceState
after_read s n = record s { left = drop n s.left; calls = next_count s.calls }

-- what a read that failed leaves
abbrev pub after_failed_read : SourceState → SourceState
after_failed_read s = record s { calls = next_count s.calls; faults = next_count s.faults }

-- what a write leaves
abbrev pub after_write : SinkState → List ℕ → SinkState
after_write s piece = record s { written = s.written ++ piece; calls = next_count s.calls }

-- what a write that failed leaves, where it took this front of its piece
abbrev pub after_failed_write : SinkState → List ℕ → SinkState
after_failed_write s front = record s { written = s.written ++ front; calls = next_count s.calls; faults = next_count s.faults }

-- a write that failed took nothing, or, where it is one of those that fail, the first `kept` bytes of its piece
abbrev pub KeepsFront : SinkState → SinkState → List ℕ → Type 0
KeepsFront old new piece = (new ≡ after_failed_write old []) ⊎ (NextFails old.failing old.calls × (new ≡ after_failed_write old (take old.kept piece)))
