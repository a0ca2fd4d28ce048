use Rattle.std.proofs.Common.{ap, ◌∙◌}
use Rattle.repl_data.specs.Check.{is_empty}
use Rattle.rule_values.proofs.ModSteps.{found_values, not_found_values}
use Rattle.rule_values.proofs.held.is_without.Goals as goal

pub returns-in-Some : goal.returns-in-Some
returns-in-Some c = c.is_empty.ensures ∙ ap is_empty (c.values.ensures ∙ found_values c.args.own.now c.args.touched.now c.args.name.now c.in-Some.attr.now c.in-Some.ensures)

pub returns-in_ok-vals-in-None : goal.returns-in_ok-vals-in-None
returns-in_ok-vals-in-None c = c.is_empty-in-None.ensures ∙ ap is_empty (c.in_ok-vals-in-None.ensures ∙ not_found_values c.args.own.now c.args.touched.now c.args.name.now c.in-None.ensures)
