-- Which answers the two ends of a session may get from their nodes.
use Rattle.std.specs.Prelude.{ℕ, List, Result}
use Rattle.repl_data.specs.declared.csn.Csn.{Csn}
use Rattle.repl_data.specs.declared.change.Update.{Update}
use Rattle.repl_data.specs.declared.items.NoMemory.{NoMemory}
use Rattle.vector_core.specs.declared.answers.Start.{Start}
use Rattle.vector_core.specs.declared.answers.Offer.{Offer}
use Rattle.vector_core.specs.declared.answers.Applied.{Applied}
use Rattle.vector_core.specs.declared.answers.ApplyFault.{ApplyFault}
use Rattle.vector_core.specs.declared.answers.AcquireFault.{AcquireFault}

-- of what a supplier asks: a call that leads from the one value to the other may give this answer
pub record Supplying (S : Type 0) : Type 1 where
  -- to the question for the update vector
  pub fronts : S → Result (List Csn) NoMemory → S → Type 0
  -- to the question for the next change beyond this vector
  pub offers : S → List Csn → Result Offer NoMemory → S → Type 0

-- the same of what a consumer asks
pub record Taking (T : Type 0) : Type 1 where
  -- whether a start may begin, at this time
  pub acquires : T → Start → ℕ → Result Unit AcquireFault → T → Type 0
  -- an update of the supplier with this id, at this time
  pub applies : T → ℕ → Update → ℕ → Result Applied ApplyFault → T → Type 0
  -- that the supplier with this id holds it no longer
  pub releases : T → ℕ → T → Type 0
  -- for the update vector
  pub fronts : T → Result (List Csn) NoMemory → T → Type 0
