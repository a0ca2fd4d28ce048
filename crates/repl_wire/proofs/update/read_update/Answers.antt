use Rattle.repl_wire.specs.Update.{update_of}
use Rattle.repl_wire.proofs.Carried.{update_good, keys_by}
use Rattle.repl_wire.proofs.update.read_update.Goals as goal

pub returns-clause-keys : goal.returns-clause-keys
returns-clause-keys c = keys_by c.find_update.result (update_of c.args.request.now) c.find_update.ensures (update_good c.args.request.now)
