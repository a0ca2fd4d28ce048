use Rattle.std.proofs.Common.{◌≡◌, drop}
use Rattle.repl_data.specs.Plain.{add_values}
use Rattle.rule_values.specs.Modify.{shown_values}
use Rattle.rule_values.proofs.ModSteps.{shown_at}
use Rattle.rule_values.proofs.held.shown_values.Given as goal

abbrev pub invariant-loop-shown : goal.invariant-loop-shown
invariant-loop-shown l = add_values (shown_at l.name (drop l.shown-index l.own)) l.vals ≡ shown_values l.own l.name
