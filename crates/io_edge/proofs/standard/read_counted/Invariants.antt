use Rattle.std.proofs.Common.{◌≤◌}
use Rattle.std.specs.Io.KnownBytes.{Keeps}
use Rattle.io_edge.proofs.standard.read_counted.Given as goal

-- interrupted reads keep what is left, and the count does not fall
abbrev pub invariant-loop : goal.invariant-loop
invariant-loop g l = Keeps (g.R.Read.remaining l.initial.reader) (g.R.Read.remaining l.reader) × (l.initial.faults ≤ l.faults)
