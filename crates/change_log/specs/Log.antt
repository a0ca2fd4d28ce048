-- The changes that a node has taken, in order of arrival.
use Rattle.std.specs.Prelude.{◌≡◌, ℕ, Bool, true, false, ◌==◌, ◌&&◌, List, Contains, filter, map}
use Rattle.std.specs.List.{All}
use Rattle.repl_data.specs.declared.csn.Csn.{Csn}
use Rattle.repl_data.specs.declared.change.Change.{Change}
use Rattle.repl_data.specs.Order.{csn_lt, csn_le}
use Rattle.vector_core.specs.Greatest.{greatest}
use Rattle.vector_core.specs.Vector.{entry_of}

-- a log: its changes in order of arrival, and how many more it has places for
pub record Log : Type 0 where
  pub changes : List Change
  pub spare : ℕ

abbrev pub csns_of : List Change → List Csn
csns_of changes = map (λ c. c.csn) changes

-- a CSN of the same originator below this one
abbrev pub is_before : Csn → Csn → Bool
is_before csn before = (before.rid == csn.rid) && csn_lt before csn

-- the greatest CSN of the same originator below this one, and zero where there is none
abbrev pub prev_in : List Change → Csn → Csn
prev_in changes csn = greatest (filter (is_before csn) (csns_of changes))

-- a CSN that lies beyond the one vector and within the other
abbrev pub is_between : List Csn → List Csn → Csn → Bool
is_between beyond limit csn = csn_lt (entry_of beyond csn.rid) csn && csn_le csn (entry_of limit csn.rid)

-- no change lies between the two
abbrev pub HasNoNext : List Change → List Csn → List Csn → Type 0
HasNoNext changes beyond limit = All (λ (c : Change). is_between beyond limit c.csn ≡ false) changes

-- the change of least CSN that lies between them
pub record IsNext (changes : List Change) (beyond limit : List Csn) (c : Change) : Type 0 where
  pub stands : Contains changes c
  pub between : is_between beyond limit c.csn ≡ true
  pub least : All (λ (d : Change). is_between beyond limit d.csn ≡ true → csn_le c.csn d.csn ≡ true) changes
