-- What it means that a stream is served by a machine.
use Rattle.std.specs.Prelude.{◌≡◌, ◌⊎◌, ℕ, List, [], ◌++◌, Option, Result, Ok, Err}
use Rattle.std.specs.Io.KnownBytes.{Appends, Consumes, IsAtEnd}
use Rattle.io_edge.specs.declared.edge.NoMemory.{NoMemory}
use Rattle.io_edge.specs.declared.machine.Fed.{Fed}
use Rattle.io_edge.specs.declared.machine.Fed.TheVariants as fed
use Rattle.io_edge.specs.Edge.{AppendsFront}
use Rattle.front_tcp.specs.declared.end.StreamEnd.{StreamEnd}
use Rattle.front_tcp.specs.declared.end.StreamEnd.TheVariants.{Ended, Unbound, BadBytes, ReadFault, WriteFault}

-- Feeds, one behind the other, after each of which more may come: of all these bytes, from this machine, adding
-- these bytes in all, to that machine.
pub data GoesOn {S : Type 0} (adds : S → List ℕ → Result Fed NoMemory → List ℕ → S → Type 0) (start : S) : List ℕ → List ℕ → S → Type 0 where
  none : GoesOn adds start [] [] start
  more : (read piece added next : List ℕ) (s t : S) → GoesOn adds start read added s → adds s piece (Ok fed.Running) next t
      → GoesOn adds start (read ++ piece) (added ++ next) t

-- the same, where a last feed answered this
pub record EndsBy {S : Type 0} (adds : S → List ℕ → Result Fed NoMemory → List ℕ → S → Type 0) (start : S) (read added : List ℕ) (answer : Result Fed NoMemory) (end : S) : Type 0 where
  pub before : List ℕ
  pub piece : List ℕ
  pub given : List ℕ
  pub last : List ℕ
  pub middle : S
  pub read_is : read ≡ before ++ piece
  pub added_is : added ≡ given ++ last
  pub goes_on : GoesOn adds start before given middle
  pub ends : adds middle piece answer last end

-- How the feeds end where the stream is served no longer for this reason. A read that fails comes after a feed
-- after which more may come, and a write that fails, or want of memory, also after any other.
abbrev pub FedSo : {S : Type 0} → (S → List ℕ → Result Fed NoMemory → List ℕ → S → Type 0) → S → List ℕ → List ℕ → Result StreamEnd NoMemory → S → Type 0
FedSo adds start read added (Ok Ended) end = GoesOn adds start read added end
FedSo adds start read added (Ok Unbound) end = EndsBy adds start read added (Ok fed.Unbound) end
FedSo adds start read added (Ok (BadBytes place)) end = EndsBy adds start read added (Ok (fed.BadBytes place)) end
FedSo adds start read added (Ok ReadFault) end = GoesOn adds start read added end
FedSo adds start read added (Ok WriteFault) end = GoesOn adds start read added end ⊎ ((answer : Fed) × EndsBy adds start read added (Ok answer) end)
FedSo adds start read added (Err short) end = GoesOn adds start read added end ⊎ EndsBy adds start read added (Err short) end

-- all of these bytes were written, or a front of them where a write failed or memory ran out
abbrev pub WrittenSo : Option (List ℕ) → Option (List ℕ) → List ℕ → Result StreamEnd NoMemory → Type 0
WrittenSo old new bytes (Ok WriteFault) = AppendsFront old new bytes
WrittenSo old new bytes (Err short) = AppendsFront old new bytes
WrittenSo old new bytes other = Appends old new bytes

-- the stream has ended
abbrev pub LeftSo : Option (List ℕ) → Result StreamEnd NoMemory → Type 0
LeftSo left (Ok Ended) = IsAtEnd left
LeftSo left other = Unit {0}

-- THE BYTES OF ONE STREAM. These bytes were read. The machine was fed them, in order, in some pieces, and what
-- it gave for them was written behind what waited at the start.
pub record Serves {S : Type 0} (adds : S → List ℕ → Result Fed NoMemory → List ℕ → S → Type 0) (start : S) (waiting : List ℕ) (left contents : Option (List ℕ)) (result : Result StreamEnd NoMemory) (end : S) (left_after contents_after : Option (List ℕ)) : Type 0 where
  pub read : List ℕ
  pub added : List ℕ
  pub taken : Consumes left left_after read
  pub fed : FedSo adds start read added result end
  pub written : WrittenSo contents contents_after (waiting ++ added) result
  pub at_end : LeftSo left_after result
