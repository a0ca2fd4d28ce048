use Rattle.std.proofs.Common.{arith}
use Rattle.std.proofs.lemmas.Grind.{common_steps}
use Rattle.attr_keys.proofs.Places.{integer_from-none, integer_from-some, integer_from-end}
use Rattle.attr_keys.proofs.number.integer_of.Goals as goal

pub returns-in_default : goal.returns-in_default
returns-in_default c = grind (arith, common_steps, integer_from-none)

pub loop-b-preserved : goal.loop-b-preserved
loop-b-preserved c = grind (arith, common_steps, integer_from-some)

pub returns : goal.returns
returns c = grind (arith, common_steps, integer_from-end)
