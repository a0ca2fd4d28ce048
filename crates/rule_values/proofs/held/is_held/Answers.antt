use Rattle.std.proofs.Common.{ap, ◌∙◌}
use Rattle.rule_values.specs.Listed.{has_key}
use Rattle.rule_values.proofs.ModSteps.{found_values, not_found_values}
use Rattle.rule_values.proofs.held.is_held.Goals as goal

pub returns-in-Some : goal.returns-in-Some
returns-in-Some c = c.has.ensures ∙ ap (has_key c.args.key.now) (c.values.ensures ∙ found_values c.args.own.now c.args.touched.now c.args.name.now c.in-Some.attr.now c.in-Some.ensures)

pub returns-in_ok-vals-in-None : goal.returns-in_ok-vals-in-None
returns-in_ok-vals-in-None c = c.has-in-None.ensures ∙ ap (has_key c.args.key.now) (c.in_ok-vals-in-None.ensures ∙ not_found_values c.args.own.now c.args.touched.now c.args.name.now c.in-None.ensures)
