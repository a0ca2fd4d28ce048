use Rattle.std.proofs.Common.{◌≡◌, [], vec_len}
use Rattle.repl_data.specs.Order.{foldr, put_by}
use Rattle.shown_entry.proofs.order.in_order.Given as goal

abbrev pub invariant-loop-item : goal.invariant-loop-item
invariant-loop-item g l =
    foldr (put_by (λ y. y) g.T.Ranked.order) [] l.initial.rest.items ≡ foldr (put_by (λ y. y) g.T.Ranked.order) l.sorted l.rest.items

abbrev pub decreases-loop-item : goal.decreases-loop-item
decreases-loop-item g l = vec_len l.rest
