use Rattle.request_wait.specs.Waiting.{IsPlaceIn}
use Rattle.request_wait.proofs.waiting.Waiting.goes_on.Given as goal

abbrev pub invariant-loop : goal.invariant-loop
invariant-loop l = IsPlaceIn l.self l.bytes
