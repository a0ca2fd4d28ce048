use Rattle.std.proofs.Common.{◌-◌}
use Rattle.ber_core.specs.Cursor.{window}
use Rattle.repl_wire.specs.Value.{csns_from, vector_inside}
use Rattle.repl_wire.proofs.Loops.{IsSoFar}
use Rattle.repl_wire.proofs.vector.vector_inside.Given as goal

abbrev pub invariant-loop : goal.invariant-loop
invariant-loop l = IsSoFar l.vector l.last (csns_from l.last (l.w.left - l.counter) (window l.here)) (vector_inside (window l.w))
