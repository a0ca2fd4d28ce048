-- An object of the outside with the count of its faults.
use Rattle.std.specs.Prelude.{ℕ}

pub record Counted (T : Type 0) : Type 0 where
  -- the reader or the writer
  pub inner : T
  -- how many of its calls answered an error
  pub faults : ℕ
