use Rattle.std.proofs.Common.{◌≡◌, ◌∙◌, sym, ap, refl, subst, false}
use Rattle.node_core.specs.Sound.{IsOpen}
use Rattle.world_core.specs.World.{Ticket, node_of}
use Rattle.world_core.specs.Held.{stage_life, stage_csn, is_committed}
use Rattle.world_core.specs.declared.held.Stage.{Stage}
use Rattle.world_core.proofs.Failures.{open-untaken, held_open}
use Rattle.world_core.proofs.end.end_held.Goals as goal

pub abort_at-requires-clause-uncommitted : goal.abort_at-requires-clause-uncommitted
abort_at-requires-clause-uncommitted c =
    let h = c.held.inside in
    let same : held_open h.number h.node h.request h.bound h.trouble c.in-Open.ticket ≡ c.args.held =
    ap (λ (s : Stage). record { number = h.number; node = h.node; life = stage_life s; csn = stage_csn s; request = h.request; bound = h.bound; committed = is_committed s; trouble = h.trouble }) (sym c.in-Open.is) ∙ c.held.view_is in
    let ns = c.args.nodes.now.items in
    let opened = subst (λ (t : Ticket). t.life ≡ (node_of ns t.node).life → t.committed ≡ false → IsOpen (node_of ns t.node) t.csn) (sym same) c.requires.open in
    λ live taken. open-untaken (node_of ns h.node) c.in-Open.ticket.csn (opened live refl) taken
