use Rattle.std.proofs.Common.{sym, ap, ◌∙◌}
use Rattle.repl_data.specs.Order.{foldr}
use Rattle.repl_data.proofs.Loops.{foldr_push}
use Rattle.rule_values.specs.Having.{held}
use Rattle.rule_values.specs.Written.{write_before}
use Rattle.rule_values.proofs.written.written.Goals as goal

pub loop-m-preserved : goal.loop-m-preserved
loop-m-preserved c =
    let f = write_before (held c.args.own.now c.args.touched.now) in
    c.loop-m.invariant ∙ ap (foldr f c.loop-m.body) c.in-Some.ensures.items
    ∙ foldr_push f c.loop-m.body c.pop.new.self.items c.in-Some.m
    ∙ ap (λ b. foldr f b c.pop.new.self.items) (sym c.in_ok-write_before.ensures)
