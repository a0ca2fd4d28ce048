use Rattle.conn_core.specs.Feeding.{session}
use Rattle.conn_core.proofs.Faults.{feeds_count, part_count}
use Rattle.conn_core.proofs.conn.Conn.feed.Goals as goal

pub returns-in-Ok-clause-faults : goal.returns-in-Ok-clause-faults
returns-in-Ok-clause-faults g c = feeds_count _ c.args.now c.args.bytes.now c.args.self.now c.args.node.now c.in-Ok.fed c.take_in.new.self c.take_in.new.node c.in-Ok.ensures.fed

pub returns-in-Err-clause-faults : goal.returns-in-Err-clause-faults
returns-in-Err-clause-faults g c = part_count _ c.args.now _ (session c.args.self.now c.args.node.now) (session c.take_in.new.self c.take_in.new.node) c.in-Err.ensures.part
