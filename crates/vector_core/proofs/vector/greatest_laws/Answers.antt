use Rattle.std.proofs.Common.{refl}
use Rattle.vector_core.specs.Greatest.{greatest}
use Rattle.repl_data.proofs.CsnTests.{csn_le-from_not}
use Rattle.vector_core.proofs.Greatests.{greatest-above, greatest-among, greatest_same, greatest-push}
use Rattle.vector_core.proofs.vector.greatest_laws.Goals as goal

pub returns-clause-above : goal.returns-clause-above
returns-clause-above c = λ csns csn h. csn_le-from_not csn (greatest csns) (greatest-above csns csn h)

pub returns-clause-among : goal.returns-clause-among
returns-clause-among c = greatest-among

pub returns-clause-same : goal.returns-clause-same
returns-clause-same c = λ a b h. greatest_same a b (λ x. (h x).0) (λ x. (h x).1)

pub returns-clause-push : goal.returns-clause-push
returns-clause-push c = greatest-push

pub returns-clause-empty : goal.returns-clause-empty
unfolding greatest
returns-clause-empty c = refl
