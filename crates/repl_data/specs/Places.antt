-- Places of two lists together.
use Rattle.std.specs.Prelude.{ℕ, ◌+◌, min, Option, Some, None}

-- a place of the first list, or else one of the second, which stands behind n others
abbrev pub first_of : Option ℕ → ℕ → Option ℕ → Option ℕ
first_of (Some k) n o = Some k
first_of None n None = None
first_of None n (Some k) = Some (n + k)

-- the earlier of two places
abbrev pub earlier_of : Option ℕ → Option ℕ → Option ℕ
earlier_of (Some i) (Some j) = Some (min i j)
earlier_of (Some i) None = Some i
earlier_of None o = o
