use Rattle.std.proofs.Common.{arith}
use Rattle.std.proofs.lemmas.Grind.{common_steps}
use Rattle.attr_keys.proofs.Places.{bad_number_from-none, bad_number_from-some, bad_number_from-end}
use Rattle.attr_keys.proofs.number.bad_integer.Goals as goal

pub returns-in_default : goal.returns-in_default
returns-in_default c = grind (arith, common_steps, bad_number_from-none)

pub loop-at-preserved : goal.loop-at-preserved
loop-at-preserved c = grind (arith, common_steps, bad_number_from-some)

pub returns-then-is_whole : goal.returns-then-is_whole
returns-then-is_whole c = grind (arith, common_steps, bad_number_from-end)

pub returns-else-is_whole : goal.returns-else-is_whole
returns-else-is_whole c = grind (arith, common_steps, bad_number_from-end)
