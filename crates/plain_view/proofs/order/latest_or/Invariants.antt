use Rattle.std.proofs.Common.{◌≡◌, vec_len}
use Rattle.repl_data.specs.Order.{foldr, later}
use Rattle.plain_view.proofs.order.latest_or.Given as goal

abbrev pub invariant-loop-one : goal.invariant-loop-one
invariant-loop-one g l = foldr later l.initial.best l.initial.rest.items ≡ foldr later l.best l.rest.items

abbrev pub decreases-loop-one : goal.decreases-loop-one
decreases-loop-one g l = vec_len l.rest
