use Rattle.repl_data.proofs.ClosedLaws.{all_facts-below, closed_presence, closed_presence-unique}
use Rattle.repl_data.proofs.laws.presence_laws.Goals as goal

pub returns-clause-below : goal.returns-clause-below
returns-clause-below c = λ suffix xs h. all_facts-below suffix xs h.sound

pub returns-clause-rule : goal.returns-clause-rule
returns-clause-rule c = closed_presence

pub returns-clause-only : goal.returns-clause-only
returns-clause-only c = closed_presence-unique
