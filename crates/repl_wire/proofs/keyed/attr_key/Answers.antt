use Rattle.std.proofs.Common.{rules}
use Rattle.repl_wire.proofs.Carried.{attr_refused}
use Rattle.repl_wire.proofs.keyed.attr_key.Goals as goal

pub returns-in-Err-BadName : goal.returns-in-Err-BadName
returns-in-Err-BadName c =
    let place = c.in-Err-BadName.field-0-0 in
    let p = c.attr_key.ensures.bad place in
    attr_refused c.args.at c.args.name.now place (p.0 (search rules))
