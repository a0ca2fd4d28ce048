use Rattle.std.proofs.Common.{◌∙◌, sym, ap, find, ◌&&◌, ◌==◌}
use Rattle.vector_core.proofs.Lists.{if_true, if_false}
use Rattle.world_core.specs.World.{Session, offer_in}
use Rattle.world_core.specs.State.{world_of}
use Rattle.world_core.proofs.Outcomes.{if_ok}
use Rattle.world_core.proofs.state.WorldState.offer.Goals as goal

pub returns-then-not-has_both-clause-ok : goal.returns-then-not-has_both-clause-ok
returns-then-not-has_both-clause-ok c = if_false _ _ (sym c.has_both.ensures.value ∙ c.if-not-has_both.true)

pub returns-in-Some-clause-ok : goal.returns-in-Some-clause-ok
returns-in-Some-clause-ok c = if_ok c.offer_place.result _ _ (λ happened e. if_true _ _ (sym c.has_both.ensures.value ∙ c.if-not-has_both.false) ∙ e) c.offer_place.ensures.ok

pub returns-in-None-clause-ok : goal.returns-in-None-clause-ok
returns-in-None-clause-ok c =
    if_true _ _ (sym c.has_both.ensures.value ∙ c.if-not-has_both.false)
    ∙ ap (λ o. offer_in (world_of c.args.self.now) c.args.a o)
    (ap (λ ss. find (λ (s : Session). (s.supplier == c.args.a) && (s.consumer == c.args.b)) ss) (sym c.as_slice.ensures.value) ∙ c.in-None.ensures)
