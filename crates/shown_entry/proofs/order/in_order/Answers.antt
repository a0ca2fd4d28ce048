use Rattle.std.proofs.Common.{sym, ap, ◌∙◌}
use Rattle.repl_data.specs.Order.{foldr, put_by}
use Rattle.repl_data.proofs.Loops.{foldr_push}
use Rattle.shown_entry.proofs.order.in_order.Goals as goal

pub loop-item-preserved : goal.loop-item-preserved
loop-item-preserved g c =
    c.loop-item.invariant ∙ ap (foldr (put_by (λ y. y) g.T.Ranked.order) c.loop-item.sorted) c.in-Some.ensures.items
    ∙ foldr_push (put_by (λ y. y) g.T.Ranked.order) c.loop-item.sorted c.pop.new.self.items c.in-Some.item
    ∙ ap (λ b. foldr (put_by (λ y. y) g.T.Ranked.order) b c.pop.new.self.items) (sym c.in_ok-put.ensures)
