use Rattle.std.proofs.Common.{List, take}
use Rattle.repl_data.specs.declared.csn.Csn.{Csn}
use Rattle.vector_core.specs.Vector.{IsVector, HasEntries}
use Rattle.vector_core.specs.Text.{IsVectorText}
use Rattle.vector_core.proofs.vector.Vector.read.Given as goal

abbrev pub invariant-loop-item : goal.invariant-loop-item
invariant-loop-item l = IsVector l.vector × ((csns : List Csn) × IsVectorText (take l.item-index l.items) csns × HasEntries l.vector csns)
