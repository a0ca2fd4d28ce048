use Rattle.std.proofs.Common.{sym, ap, ◌∙◌}
use Rattle.repl_data.specs.Order.{foldr, csn_max}
use Rattle.repl_data.proofs.Loops.{foldr_push}
use Rattle.plain_view.proofs.order.greatest.Goals as goal

pub loop-one-preserved : goal.loop-one-preserved
loop-one-preserved c =
    c.loop-one.invariant ∙ ap (foldr csn_max c.loop-one.best) c.in-Some.ensures.items
    ∙ foldr_push csn_max c.loop-one.best c.pop.new.self.items c.in-Some.one
    ∙ ap (λ b. foldr csn_max b c.pop.new.self.items) (sym c.greater-best.ensures)
