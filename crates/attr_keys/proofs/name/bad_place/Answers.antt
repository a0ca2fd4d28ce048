use Rattle.std.proofs.Common.{arith}
use Rattle.std.proofs.lemmas.Grind.{common_steps}
use Rattle.attr_keys.proofs.Places.{bad_from-none, bad_from-some, bad_from-end}
use Rattle.attr_keys.proofs.name.bad_place.Goals as goal

pub returns-in_default : goal.returns-in_default
returns-in_default c = grind (arith, common_steps, bad_from-none)

pub loop-at-preserved : goal.loop-at-preserved
loop-at-preserved c = grind (arith, common_steps, bad_from-some)

pub returns-then-may_end : goal.returns-then-may_end
returns-then-may_end c = grind (arith, common_steps, bad_from-end)

pub returns-else-may_end : goal.returns-else-may_end
returns-else-may_end c = grind (arith, common_steps, bad_from-end)
