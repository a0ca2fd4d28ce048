use Rattle.agreement_run.proofs.Ends.{messages_are_written, replies_are_read, one_is_unanswered, every_end_is_answered, every_loss_has_a_cause}
use Rattle.agreement_run.proofs.laws.run_laws.Goals as goal

pub returns-clause-written : goal.returns-clause-written
returns-clause-written g c = messages_are_written

pub returns-clause-read : goal.returns-clause-read
returns-clause-read g c = replies_are_read

pub returns-clause-unanswered : goal.returns-clause-unanswered
returns-clause-unanswered g c = one_is_unanswered

pub returns-clause-answered : goal.returns-clause-answered
returns-clause-answered g c = every_end_is_answered g.S.Supply.supplying c.session_laws.ensures.ends

pub returns-clause-lost : goal.returns-clause-lost
returns-clause-lost g c = every_loss_has_a_cause g.S.Supply.supplying
