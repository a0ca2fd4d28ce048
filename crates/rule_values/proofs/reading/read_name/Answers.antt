use Rattle.std.proofs.Common.{refl}
use Rattle.rule_values.proofs.InTurn.{name_refused}
use Rattle.rule_values.proofs.reading.read_name.Goals as goal

pub returns-in-Err-BadName : goal.returns-in-Err-BadName
returns-in-Err-BadName c =
    name_refused c.args.name.now c.in-Err-BadName.field-0-0 _ ((c.attr_key.ensures.bad c.in-Err-BadName.field-0-0).0 (cc)) refl
