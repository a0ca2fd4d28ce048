-- How a door counts its answers, and doors and dialers in memory as contracts see them.
use Rattle.std.specs.Prelude.{ℕ, List, [], ◌∷◌, drop, Result, Ok, Option, Some, None}
use Rattle.io_edge.specs.Causes.{next_count}

-- one more where a stream was handed out
abbrev pub handed_after : {S E : Type 0} → ℕ → Result (Option S) E → ℕ
handed_after count (Ok (Some stream)) = next_count count
handed_after count _ = count

-- one more where the door answered that it is closed
abbrev pub nones_after : {S E : Type 0} → ℕ → Result (Option S) E → ℕ
nones_after count (Ok None) = next_count count
nones_after count _ = count

pub record DoorState (S : Type 0) : Type 0 where
  -- the streams that have not been handed out
  pub streams : List S
  -- the numbers of the calls that fail, counted from 1
  pub failing : List ℕ
  -- how many calls came, how many of them failed, how many handed a stream out, and how many answered None
  pub calls : ℕ
  pub faults : ℕ
  pub handed : ℕ
  pub nones : ℕ

pub record DialerState (S : Type 0) : Type 0 where
  -- the streams that have not been handed out
  pub streams : List S
  -- how many calls came, and how many of them failed
  pub calls : ℕ
  pub faults : ℕ

-- a door with these streams that was not called yet
abbrev pub door_of : {S : Type 0} → List S → List ℕ → DoorState S
door_of streams failing = record { streams = streams; failing = failing; calls = 0; faults = 0; handed = 0; nones = 0 }

-- the next stream of a list, where there is one
abbrev pub next_stream : {S : Type 0} → List S → Option S
next_stream [] = None
next_stream (x ∷ xs) = Some x

-- what a call leaves that answered with this stream or with none
abbrev pub after_accept : {S : Type 0} → DoorState S → Option S → DoorState S
after_accept d None = record d { calls = next_count d.calls; nones = next_count d.nones }
after_accept d (Some x) = record d { streams = drop 1 d.streams; calls = next_count d.calls; handed = next_count d.handed }

-- what a call leaves that failed
abbrev pub after_failed_accept : {S : Type 0} → DoorState S → DoorState S
after_failed_accept d = record d { calls = next_count d.calls; faults = next_count d.faults }

-- a dialer with these streams that was not called yet
abbrev pub dialer_of : {S : Type 0} → List S → DialerState S
dialer_of streams = record { streams = streams; calls = 0; faults = 0 }

-- what a call leaves that answered the next stream
abbrev pub after_dial : {S : Type 0} → DialerState S → DialerState S
after_dial d = record d { streams = drop 1 d.streams; calls = next_count d.calls }

-- what a call leaves where no stream was left
abbrev pub after_failed_dial : {S : Type 0} → DialerState S → DialerState S
after_failed_dial d = record d { calls = next_count d.calls; faults = next_count d.faults }
