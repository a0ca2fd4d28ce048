use Rattle.rule_values.proofs.SetLemmas.{none_of}
use Rattle.rule_values.proofs.spelled.is_empty.Goals as goal

pub returns : goal.returns
returns c = none_of c.args.spelled.now.entries c.len.result c.len.ensures.len
