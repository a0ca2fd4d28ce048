use Rattle.std.proofs.Common.{◌∙◌, sym, ap}
use Rattle.vector_core.proofs.Lists.{if_true, if_false}
use Rattle.node_core.specs.Steps.{begin_answer}
use Rattle.world_core.specs.World.{node_in, started}
use Rattle.world_core.specs.State.{world_of}
use Rattle.world_core.proofs.Outcomes.{if_ok}
use Rattle.world_core.proofs.state.WorldState.start.Goals as goal

pub returns-then-not-has_node-clause-ok : goal.returns-then-not-has_node-clause-ok
returns-then-not-has_node-clause-ok c = if_false _ _ (sym c.has_node.ensures.value ∙ c.if-not-has_node.true)

pub returns-clause-ok : goal.returns-clause-ok
returns-clause-ok c =
    let w = world_of c.args.self.now in
    if_ok c.begin.result _ _
    (λ happened e.
    if_true _ _ (sym c.has_node.ensures.value ∙ c.if-not-has_node.false)
    ∙ ap (λ ts. started (record w { tickets = ts }) c.args.k c.args.n c.args.request c.args.bound (begin_answer (node_in w c.args.n) w.clock)) (sym c.reserve.ensures.items)
    ∙ e)
    c.begin.ensures.ok
