use Rattle.std.proofs.Common.{◌≡◌, ◌++◌, take, drop}
use Rattle.repl_data.specs.Order.{put_by}
use Rattle.shown_entry.proofs.order.place.Given as goal

abbrev pub invariant-loop-at : goal.invariant-loop-at
invariant-loop-at g l =
    put_by (λ y. y) g.T.Ranked.order l.item l.items ≡ take l.at l.items ++ put_by (λ y. y) g.T.Ranked.order l.item (drop l.at l.items)
