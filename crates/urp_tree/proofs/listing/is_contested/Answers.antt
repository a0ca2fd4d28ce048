use Rattle.std.proofs.Common.{◌≤◌, sym, subst}
use Rattle.std.specs.List.{AllByRecursion}
use Rattle.urp_tree.specs.Listed.{IsAlone}
use Rattle.urp_tree.proofs.listing.is_contested.Goals as goal

pub loop-who-preserved : goal.loop-who-preserved
loop-who-preserved c = λ rest. c.loop-who.invariant (subst (AllByRecursion IsAlone) (sym c.in-Some.ensures.steps) (subst (λ n. n ≤ 1) c.len.ensures c.if-len-gt1.false, rest))

pub returns : goal.returns
returns c = λ no. c.loop-who.invariant (subst (AllByRecursion IsAlone) (sym c.in-None.ensures.steps.0) tt)
