use Rattle.std.proofs.Common.{◌≡◌, length}
use Rattle.conn_core.specs.Waiting.{waiting}
use Rattle.conn_core.proofs.rest.Rest.refill.Given as goal

abbrev pub invariant-loop-conn : goal.invariant-loop-conn
invariant-loop-conn l = record {
  bytes : waiting l.self l.conn.replies ≡ waiting l.fn.self l.fn.conn.replies;
  others : l.conn ≡ record l.fn.conn { replies = l.conn.replies };
}

abbrev pub decreases-loop-conn : goal.decreases-loop-conn
decreases-loop-conn l = length l.conn.replies
