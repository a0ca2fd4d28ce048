use Rattle.lock_cases.specs.Ready.{IsReady}
use Rattle.lock_cases.proofs.work.take_one_by_one.Given as goal

abbrev pub invariant-loop-number : goal.invariant-loop-number
invariant-loop-number g l = IsReady l.lock l.seat
