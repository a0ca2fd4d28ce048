use Rattle.std.proofs.Common.{◌≡◌, take}
use Rattle.vector_core.specs.Greatest.{greatest}
use Rattle.node_core.proofs.node.greatest_of.Given as goal

abbrev pub invariant-loop-csn : goal.invariant-loop-csn
invariant-loop-csn l = l.most ≡ greatest (take l.csn-index l.entries)
