use Rattle.std.proofs.Common.{◌≡◌, ◌++◌, length, map}
use Rattle.std.specs.Vec.Iter.{into_iter_items, into_iter_len}
use Rattle.conn_core.specs.Serving.{entry_bytes}
use Rattle.conn_core.proofs.conn.Conn.send_entries.Given as goal

abbrev pub invariant-loop-entry : goal.invariant-loop-entry
invariant-loop-entry l = record {
  joined : l.self ≡ record l.fn.self { replies = l.fn.self.replies ++ map (entry_bytes l.id) l.yielded };
  all : l.yielded ++ into_iter_items l.entry-iterator ≡ into_iter_items l.initial.entry-iterator;
  count : into_iter_len l.entry-iterator ≡ length (into_iter_items l.entry-iterator);
}
