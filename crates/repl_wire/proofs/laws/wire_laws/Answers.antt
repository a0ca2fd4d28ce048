use Rattle.repl_wire.proofs.Whole.{nothing_is_missing}
use Rattle.repl_wire.proofs.Sizes.{starts_fit}
use Rattle.repl_wire.proofs.Sessions.{starts_come_back, answers_come_back, ends_come_back}
use Rattle.repl_wire.proofs.UpdateSizes.{updates_fit, updates_come_back}
use Rattle.repl_wire.proofs.laws.wire_laws.Goals as goal

pub returns-clause-starts : goal.returns-clause-starts
returns-clause-starts c = starts_come_back

pub returns-clause-starts_fit : goal.returns-clause-starts_fit
returns-clause-starts_fit c = starts_fit

pub returns-clause-answers : goal.returns-clause-answers
returns-clause-answers c = answers_come_back

pub returns-clause-ends : goal.returns-clause-ends
returns-clause-ends c = ends_come_back

pub returns-clause-missing : goal.returns-clause-missing
returns-clause-missing c = nothing_is_missing

pub returns-clause-updates : goal.returns-clause-updates
returns-clause-updates c = updates_come_back

pub returns-clause-updates_fit : goal.returns-clause-updates_fit
returns-clause-updates_fit c = updates_fit
