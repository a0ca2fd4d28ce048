use Rattle.std.proofs.Common.{◌∙◌, sym, ap, Some}
use Rattle.world_core.specs.World.{node_of, node_in, with_node, deliver}
use Rattle.world_core.specs.State.{world_of}
use Rattle.world_core.proofs.Outcomes.{if_ok, on_err_then, same_node}
use Rattle.world_core.proofs.SessionSteps.{deliver-done, deliver-not}
use Rattle.world_core.proofs.state.WorldState.deliver_place.Goals as goal

pub returns : goal.returns
returns c =
    let w = world_of c.args.self.now in
    let o = c.index-offered.result.now in
    let left = node_of c.apply_at-answer.new.nodes.items c.args.b in
    let e = c.requires.found o ∙ ap (λ x. Some x) (sym c.index-offered.ensures) in
    record {
      ok = if_ok c.delivered.result _ _
          (λ happened t.
          ap (λ x. deliver w c.args.b x) e
          ∙ deliver-done w c.args.b o c.apply_at-answer.result left c.apply_at-answer.new.nodes.items happened c.apply_at-answer.ensures.step c.apply_at-answer.ensures.keeper c.apply_at-answer.ensures.others t)
          c.delivered.ensures.ok;
      err = on_err_then c.delivered.result _ _
          (λ short. ap (λ ns. record w { nodes = ns })
          (c.apply_at-answer.ensures.others
          ∙ ap (λ m. with_node w.nodes c.args.b m) (deliver-not (node_in w c.args.b) o.supplier o.update w.clock c.apply_at-answer.result left c.apply_at-answer.ensures.step short)
          ∙ same_node w.nodes c.args.b))
          c.delivered.ensures.err;
    }
