use Rattle.rule_values.proofs.Counts.{no_key}
use Rattle.rule_values.proofs.counting.key_of.Goals as goal

pub returns-in-Err-BadName : goal.returns-in-Err-BadName
returns-in-Err-BadName c =
    no_key c.args.given.now c.as_slice.result.now c.in-Err-BadName.field-0-0 c.as_slice.ensures ((c.attr_key.ensures.bad c.in-Err-BadName.field-0-0).0 (cc))
