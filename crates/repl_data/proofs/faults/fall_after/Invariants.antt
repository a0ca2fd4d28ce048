use Rattle.std.proofs.Common.{◌≡◌, ◌+◌, drop}
use Rattle.std.specs.List.{position_from}
use Rattle.repl_data.specs.Check.{falls_after}
use Rattle.repl_data.proofs.faults.fall_after.Given as goal

abbrev pub invariant-loop-i : goal.invariant-loop-i
invariant-loop-i g l =
    position_from (λ b. b) 1 (falls_after g.T.Keyed.key_of l.fn.first l.rest)
    ≡ position_from (λ b. b) (l.i + 1) (falls_after g.T.Keyed.key_of l.before (drop l.i l.rest))
