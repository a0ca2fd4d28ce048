-- The CSNs that a node has drawn and not settled.
use Rattle.std.specs.Prelude.{◌≡◌, ℕ, ◌<◌, Bool, true, not, List, filter, length, slice_index_or}
use Rattle.std.specs.List.{All, list_all}
use Rattle.repl_data.specs.declared.csn.Csn.{Csn}
use Rattle.repl_data.specs.Order.{csn_lt, csn_le, csn_eq, zero_csn}

-- how many CSNs can be pending at a time
abbrev pub places : ℕ
places = 1024

-- each CSN is below those behind it
abbrev pub IsRising : List Csn → Type 0
IsRising csns = (i j : ℕ) → i < j → j < length csns → csn_lt (slice_index_or csns i zero_csn) (slice_index_or csns j zero_csn) ≡ true

-- a CSN that is above all of these
abbrev pub IsAbove : List Csn → Csn → Type 0
IsAbove csns csn = All (λ held. csn_lt held csn ≡ true) csns

-- the list without this CSN
abbrev pub without : List Csn → Csn → List Csn
without csns csn = filter (λ held. not (csn_eq held csn)) csns

-- no pending CSN is at or below this one
abbrev pub is_free : List Csn → Csn → Bool
is_free pending csn = list_all (λ held. csn_lt csn held) pending

-- none of these is below it
abbrev pub IsLeast : List Csn → Csn → Type 0
IsLeast csns csn = All (λ held. csn_le csn held ≡ true) csns
