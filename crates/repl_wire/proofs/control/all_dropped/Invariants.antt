use Rattle.std.proofs.Common.{◌≡◌, ◌-◌}
use Rattle.ber_core.specs.Cursor.{window}
use Rattle.ber_core.specs.Window.{many_from}
use Rattle.ber_core.proofs.Loops.{with_front}
use Rattle.repl_wire.specs.Control.{dropped_here}
use Rattle.repl_wire.proofs.control.all_dropped.Given as goal

abbrev pub invariant-loop : goal.invariant-loop
invariant-loop l = with_front l.all (many_from dropped_here (l.w.left - l.counter) (window l.here)) ≡ many_from dropped_here l.w.left (window l.w)
