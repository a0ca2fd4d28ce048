use Rattle.std.proofs.Common.{Option, subst}
use Rattle.std.specs.List.{AllByRecursion}
use Rattle.urp_names.specs.Contending.{Contending, IsFront, IsInFront}
use Rattle.urp_tree.specs.Index.{who_of}
use Rattle.urp_tree.proofs.row.Row.front.Goals as goal

pub returns-in-Some-clause-first : goal.returns-in-Some-clause-first
returns-in-Some-clause-first c = subst (λ (o : Option Contending). AllByRecursion (IsFront c.args.id (who_of o)) c.front.result.now) c.in-Some.ensures.value c.front.ensures.first

pub returns-in-Some-clause-all : goal.returns-in-Some-clause-all
returns-in-Some-clause-all c = subst (λ (o : Option Contending). AllByRecursion (IsInFront c.args.id (who_of o) c.front.result.now) (who_of o)) c.in-Some.ensures.value c.front.ensures.all
