use Rattle.std.proofs.Common.{◌≡◌, ◌≤◌, ℕ, List, ◌++◌}
use Rattle.std.specs.Io.KnownBytes.{Appends}
use Rattle.io_edge.proofs.standard.write_counted.Given as goal

-- what is gone from the piece was appended, and the count does not fall
abbrev pub invariant-loop : goal.invariant-loop
invariant-loop g l =
    ((done : List ℕ) × (l.initial.rest ≡ done ++ l.rest) × Appends (g.W.Write.contents l.initial.writer) (g.W.Write.contents l.writer) done)
    × (l.initial.faults ≤ l.faults)
