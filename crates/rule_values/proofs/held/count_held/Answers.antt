use Rattle.std.proofs.Common.{ap, ◌∙◌, length}
use Rattle.rule_values.proofs.ModSteps.{found_values, not_found_values}
use Rattle.rule_values.proofs.held.count_held.Goals as goal

pub returns-in-Some : goal.returns-in-Some
returns-in-Some c = c.len.ensures ∙ ap length (c.values.ensures ∙ found_values c.args.own.now c.args.touched.now c.args.name.now c.in-Some.attr.now c.in-Some.ensures)

pub returns-in_ok-vals-in-None : goal.returns-in_ok-vals-in-None
returns-in_ok-vals-in-None c = c.len-in-None.ensures ∙ ap length (c.in_ok-vals-in-None.ensures ∙ not_found_values c.args.own.now c.args.touched.now c.args.name.now c.in-None.ensures)
