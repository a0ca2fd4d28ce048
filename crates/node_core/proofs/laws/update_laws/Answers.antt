use Rattle.std.proofs.Common.{◌≤◌, subst}
use Rattle.repl_data.specs.declared.change.Update.{Update}
use Rattle.repl_data.specs.Order.{number_of}
use Rattle.node_core.proofs.Prevs.{prev_in-fits}
use Rattle.node_core.proofs.Offers.{offer-is}
use Rattle.node_core.proofs.LeastOffers.{offer-least}
use Rattle.node_core.proofs.laws.update_laws.Goals as goal

pub returns-clause-prev : goal.returns-clause-prev
returns-clause-prev c = λ n d s. prev_in-fits n.taken d.csn s.taken_plain

pub returns-clause-offered : goal.returns-clause-offered
returns-clause-offered c = λ n beyond u s e. (let o = offer-is n beyond u s e in (o.change, o.has, o.covered, o.is))

pub returns-clause-least : goal.returns-clause-least
returns-clause-least c = λ n beyond u d s e h l b. (let o = offer-least n beyond u s e in subst (λ (z : Update). number_of z.change.csn ≤ number_of d.csn) o.is (o.least d h l b))
