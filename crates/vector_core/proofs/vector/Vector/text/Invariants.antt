use Rattle.std.proofs.Common.{◌≡◌, map, take}
use Rattle.vector_core.specs.Text.{entry_text}
use Rattle.vector_core.proofs.vector.Vector.text.Given as goal

abbrev pub invariant-loop-csn : goal.invariant-loop-csn
invariant-loop-csn l = l.texts ≡ map entry_text (take l.csn-index l.entries)
