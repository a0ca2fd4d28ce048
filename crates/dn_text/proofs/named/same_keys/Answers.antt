use Rattle.dn_text.proofs.Counted.{zero_count, no_count}
use Rattle.dn_text.proofs.named.same_keys.Goals as goal

pub returns-in-Some : goal.returns-in-Some
returns-in-Some c =
    zero_count c.args.a.now c.args.b.now c.in-Some.count c.in-Some.ensures.found

pub returns-in-None : goal.returns-in-None
returns-in-None c = no_count c.args.a.now c.args.b.now (c.below.ensures.none c.in-None.is)
