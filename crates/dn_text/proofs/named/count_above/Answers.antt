use Rattle.dn_text.proofs.Counted.{counted_as}
use Rattle.dn_text.proofs.named.count_above.Goals as goal

pub returns-clause-value : goal.returns-clause-value
returns-clause-value c = counted_as c.args.name.now c.args.suffix.now c.below.result c.below.ensures.found c.below.ensures.none
