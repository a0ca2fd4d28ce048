use Rattle.std.proofs.Common.{drop}
use Rattle.repl_wire.specs.Keys.{each_from}
use Rattle.repl_wire.specs.Update.{part_of}
use Rattle.repl_wire.proofs.Each.{Read}
use Rattle.repl_wire.proofs.keyed.parts_of.Given as goal

abbrev pub invariant-loop-at : goal.invariant-loop-at
invariant-loop-at l = Read l.all (each_from part_of l.at (drop l.at l.items)) (each_from part_of 0 l.dropped)
