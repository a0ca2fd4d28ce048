use Rattle.replica_session.proofs.Sessions.{every_session_stands, every_session_ends, counts_taken, numbers_are_within}
use Rattle.replica_session.proofs.Told.{bind_is_read, zero_is_taken, refusal_is_told}
use Rattle.replica_session.proofs.laws.session_laws.Goals as goal

pub returns-clause-stands : goal.returns-clause-stands
returns-clause-stands g c = every_session_stands g.S.Supply.supplying

pub returns-clause-ends : goal.returns-clause-ends
returns-clause-ends g c = every_session_ends g.S.Supply.supplying

pub returns-clause-counts : goal.returns-clause-counts
returns-clause-counts g c = counts_taken g.S.Supply.supplying

pub returns-clause-numbers : goal.returns-clause-numbers
returns-clause-numbers g c = numbers_are_within g.S.Supply.supplying

pub returns-clause-bind : goal.returns-clause-bind
returns-clause-bind g c = bind_is_read

pub returns-clause-zero : goal.returns-clause-zero
returns-clause-zero g c = zero_is_taken

pub returns-clause-told : goal.returns-clause-told
returns-clause-told g c = refusal_is_told
