use Rattle.filter_truth.proofs.Names.{no_name}
use Rattle.filter_truth.proofs.reading.attr_of.Goals as goal

pub returns-in-Err-BadName : goal.returns-in-Err-BadName
returns-in-Err-BadName c = no_name c.args.name.now c.in-Err-BadName.field-0-0 ((c.attr_key.ensures.bad c.in-Err-BadName.field-0-0).0 (cc))
