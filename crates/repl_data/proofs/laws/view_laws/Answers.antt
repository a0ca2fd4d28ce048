use Rattle.repl_data.proofs.SameSet.{view_of-same, distinct}
use Rattle.repl_data.proofs.Repeats.{own_facts-again, view_of-again}
use Rattle.repl_data.proofs.Arrival.{closed_of_arrival, target_known, first_of_entry}
use Rattle.repl_data.proofs.Steps.{all_facts-append}
use Rattle.repl_data.proofs.Known.{known_by_view}
use Rattle.repl_data.proofs.laws.view_laws.Goals as goal

pub returns-clause-order : goal.returns-clause-order
returns-clause-order c = view_of-same

pub returns-clause-again : goal.returns-clause-again
returns-clause-again c = λ suffix xs d h m. view_of-again suffix xs d (distinct xs h.once h.sound) m

pub returns-clause-again_own : goal.returns-clause-again_own
returns-clause-again_own c = λ suffix u own d once sound m. own_facts-again suffix u own d (distinct own once sound) m

pub returns-clause-arrival : goal.returns-clause-arrival
returns-clause-arrival c = closed_of_arrival

pub returns-clause-next : goal.returns-clause-next
returns-clause-next c = λ suffix xs d a. all_facts-append suffix xs d (target_known xs d a)

pub returns-clause-added : goal.returns-clause-added
returns-clause-added c = first_of_entry

pub returns-clause-known : goal.returns-clause-known
returns-clause-known c = known_by_view
