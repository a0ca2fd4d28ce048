use Rattle.std.proofs.Common.{◌≡◌, ◌-◌, subst, slice_set}
use Rattle.node_core.specs.Node.{Node}
use Rattle.node_core.specs.Steps.{judge_view}
use Rattle.node_core.specs.Calls.{Commits}
use Rattle.world_core.specs.World.{node_of}
use Rattle.world_core.proofs.Outcomes.{node_at-place, node_set-place}
use Rattle.world_core.proofs.nodes.commit_at.Goals as goal

pub returns-clause-step : goal.returns-clause-step
returns-clause-step c =
    let ns = c.args.nodes.now.items in
    let met = c.index_mut.result.now in
    let left = c.commit.new.self in
    let here : met ≡ node_of ns c.args.n = node_at-place ns c.args.n met c.requires.node c.index_mut.ensures.value in
    let there : left ≡ node_of (slice_set ns (c.args.n - 1) left) c.args.n = node_set-place ns c.args.n left c.requires.node in
    subst (λ (m : Node). Commits judge_view (node_of ns c.args.n) c.args.ticket c.args.request.now c.args.bound c.args.now c.commit.result m) there
    (subst (λ (m : Node). Commits judge_view m c.args.ticket c.args.request.now c.args.bound c.args.now c.commit.result left) here c.commit.ensures.step)
