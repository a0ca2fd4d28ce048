use Rattle.urp_tree.proofs.Written.{slot_given}
use Rattle.urp_tree.proofs.row.Row.tidy.Goals as goal

pub returns-then-is_free-clause-names : goal.returns-then-is_free-clause-names
returns-then-is_free-clause-names c = slot_given c.args.self.now.names c.remove.new.self c.args.rdn.now (c.is_free.ensures c.if-is_free.true) c.remove.ensures.updates
