use Rattle.std.proofs.Common.{sym, ap, ◌∙◌}
use Rattle.repl_data.specs.Order.{foldr, later}
use Rattle.repl_data.proofs.Loops.{foldr_push}
use Rattle.plain_view.proofs.order.latest_or.Goals as goal

pub loop-one-preserved : goal.loop-one-preserved
loop-one-preserved g c =
    c.loop-one.invariant ∙ ap (foldr later c.loop-one.best) c.in-Some.ensures.items
    ∙ foldr_push later c.loop-one.best c.pop.new.self.items c.in-Some.one
    ∙ ap (λ b. foldr later b c.pop.new.self.items) (sym c.later-best.ensures)
