use Rattle.std.proofs.Common.{length}
use Rattle.repl_wire.proofs.update.+control_of.Given as goal

abbrev pub decreases-control_of : goal.decreases-control_of
decreases-control_of l = length l.controls.now
