use Rattle.std.proofs.Common.{◌≡◌, vec_len}
use Rattle.repl_data.specs.Order.{foldr, csn_max}
use Rattle.plain_view.proofs.order.greatest.Given as goal

abbrev pub invariant-loop-one : goal.invariant-loop-one
invariant-loop-one l = foldr csn_max l.initial.best l.initial.rest.items ≡ foldr csn_max l.best l.rest.items

abbrev pub decreases-loop-one : goal.decreases-loop-one
decreases-loop-one l = vec_len l.rest
