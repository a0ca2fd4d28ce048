-- Update vectors: the greatest CSN of each originator.
use Rattle.std.specs.Prelude.{◌≡◌, ◌≢◌, ℕ, ◌<◌, Bool, ◌==◌, if◌then◌else◌, List, filter, length, slice_index_or}
use Rattle.repl_data.specs.declared.csn.Csn.{Csn}
use Rattle.repl_data.specs.Order.{csn_le, zero_csn}
use Rattle.vector_core.specs.Greatest.{later_of, greatest}

-- the entry of a vector for one originator: zero where it has none
abbrev pub entry_of : List Csn → ℕ → Csn
entry_of vector o = greatest (filter (λ c. c.rid == o) vector)

-- the entries of a vector: one of each originator, in rising order of replica id, none of them zero
pub record IsVector (entries : List Csn) : Type 0 where
  pub rising : (i j : ℕ) → i < j → j < length entries → (slice_index_or entries i zero_csn).rid < (slice_index_or entries j zero_csn).rid
  pub kept : (i : ℕ) → i < length entries → slice_index_or entries i zero_csn ≢ zero_csn

-- a CSN that is at or below the entry of its originator
abbrev pub is_covered_by : List Csn → Csn → Bool
is_covered_by vector csn = csn_le csn (entry_of vector csn.rid)

-- the entry of the CSN's originator comes to be at or above it, and the others stay
abbrev pub IsRaised : List Csn → List Csn → Csn → Type 0
IsRaised old new csn = (o : ℕ) → entry_of new o ≡ (if o == csn.rid then later_of (entry_of old o) csn else entry_of old o)

-- each entry is the greater of the two
abbrev pub IsMerged : List Csn → List Csn → List Csn → Type 0
IsMerged old other new = (o : ℕ) → entry_of new o ≡ later_of (entry_of old o) (entry_of other o)

-- a vector whose entries are the greatest of these CSNs
abbrev pub HasEntries : List Csn → List Csn → Type 0
HasEntries vector csns = (o : ℕ) → entry_of vector o ≡ entry_of csns o
