-- The index of a log: for each change its CSN and its place, in order of originator and then of CSN.
use Rattle.std.specs.Prelude.{◌≡◌, ℕ, ◌<◌, Bool, true, false, nat_lt, not, ◌&&◌, ◌==◌, if◌then◌else◌, List, length, slice_index_or, Option, Some, None}
use Rattle.repl_data.specs.declared.csn.Csn.{Csn}
use Rattle.repl_data.specs.declared.change.Change.{Change}
use Rattle.repl_data.specs.Order.{csn_lt, csn_le, zero_csn}
use Rattle.change_log.specs.declared.index.Place.{Place}

-- by originator, and then by CSN
abbrev pub place_lt : Csn → Csn → Bool
place_lt a b = if a.rid == b.rid then csn_lt a b else nat_lt a.rid b.rid

abbrev pub no_place : Place
no_place = record { csn = zero_csn; at = 0 }

abbrev pub IsRising : List Place → Type 0
IsRising index = (i j : ℕ) → i < j → j < length index → place_lt (slice_index_or index i no_place).csn (slice_index_or index j no_place).csn ≡ true

-- the index rises, and each of its places is that of a change with its CSN; there is one for each change
pub record IsIndex (index : List Place) (changes : List Change) : Type 0 where
  pub rising : IsRising index
  pub within : (i : ℕ) → i < length index → (slice_index_or index i no_place).at < length changes
  pub csns : (i : ℕ) (d : Change) → i < length index → (slice_index_or changes (slice_index_or index i no_place).at d).csn ≡ (slice_index_or index i no_place).csn
  pub all : (k : ℕ) → k < length changes → (i : ℕ) × (i < length index) × ((slice_index_or index i no_place).at ≡ k)

-- a place that comes before those of this originator beyond a CSN
abbrev pub is_upto : ℕ → Csn → Csn → Bool
is_upto rid beyond csn = if csn.rid == rid then not (csn_lt beyond csn) else nat_lt csn.rid rid

-- a CSN of this originator, beyond the one and at most the other
abbrev pub is_in_reach : Csn → Csn → Csn → Bool
is_in_reach beyond limit csn = (csn.rid == limit.rid) && (csn_lt beyond csn && csn_le csn limit)

-- the place of an index that passes a test and has the least CSN of those that do
pub record IsLeastPlace (index : List Place) (test : Csn → Bool) (place : Place) : Type 0 where
  pub at : (k : ℕ) × (k < length index) × (slice_index_or index k no_place ≡ place)
  pub passes : test place.csn ≡ true
  pub least : (k : ℕ) → k < length index → test (slice_index_or index k no_place).csn ≡ true → csn_lt (slice_index_or index k no_place).csn place.csn ≡ false

-- no place of an index passes a test
abbrev pub HasNoPlace : List Place → (Csn → Bool) → Type 0
HasNoPlace index test = (k : ℕ) → k < length index → test (slice_index_or index k no_place).csn ≡ false

-- the place of the lower CSN, where there are two
abbrev pub lower_place : Option Place → Option Place → Option Place
lower_place None b = b
lower_place (Some one) None = Some one
lower_place (Some one) (Some other) = if csn_lt other.csn one.csn then Some other else Some one

-- what has become of the first n entries of a limit: the place of least CSN that passes the test and is of one of them
pub record IsBest (index : List Place) (test : Csn → Bool) (limit : List Csn) (n : ℕ) (place : Place) : Type 0 where
  pub at : (k : ℕ) × (k < length index) × (slice_index_or index k no_place ≡ place)
  pub passes : test place.csn ≡ true
  pub least : (k j : ℕ) → k < length index → j < n → (slice_index_or limit j zero_csn).rid ≡ (slice_index_or index k no_place).csn.rid → test (slice_index_or index k no_place).csn ≡ true
      → csn_lt (slice_index_or index k no_place).csn place.csn ≡ false

abbrev pub HasNone : List Place → (Csn → Bool) → List Csn → ℕ → Type 0
HasNone index test limit n =
    (k j : ℕ) → k < length index → j < n → (slice_index_or limit j zero_csn).rid ≡ (slice_index_or index k no_place).csn.rid → test (slice_index_or index k no_place).csn ≡ false

abbrev pub IsBestOf : List Place → (Csn → Bool) → List Csn → ℕ → Option Place → Type 0
IsBestOf index test limit n None = HasNone index test limit n
IsBestOf index test limit n (Some place) = IsBest index test limit n place

abbrev pub IsLeastOf : List Place → (Csn → Bool) → Option Place → Type 0
IsLeastOf index test None = HasNoPlace index test
IsLeastOf index test (Some place) = IsLeastPlace index test place
