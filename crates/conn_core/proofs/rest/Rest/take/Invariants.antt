use Rattle.std.proofs.Common.{◌≡◌, ◌-◌, length}
use Rattle.conn_core.specs.Waiting.{waiting}
use Rattle.conn_core.proofs.Taking.{IsTaken}
use Rattle.conn_core.proofs.rest.Rest.take.Given as goal

abbrev pub invariant-loop-count : goal.invariant-loop-count
invariant-loop-count l = record {
  taken : IsTaken (waiting l.fn.self l.fn.conn.replies) l.fn.out l.out l.self l.conn.replies l.count;
  others : l.conn ≡ record l.fn.conn { replies = l.conn.replies };
}

abbrev pub decreases-loop-count : goal.decreases-loop-count
decreases-loop-count l = length l.out - l.count
