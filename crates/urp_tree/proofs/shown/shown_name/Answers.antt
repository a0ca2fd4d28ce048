use Rattle.std.proofs.Common.{ap, ◌∙◌}
use Rattle.repl_data.specs.Facts.{EntryFacts}
use Rattle.repl_data.specs.Presence.{present_of}
use Rattle.repl_data.specs.Names.{with_id}
use Rattle.urp_tree.specs.Rows.{facts_in}
use Rattle.urp_tree.proofs.Fits.{on_each}
use Rattle.urp_tree.proofs.Lost.{shown_lost, shown_kept}
use Rattle.urp_tree.proofs.shown.shown_name.Goals as goal

pub returns-then-lost : goal.returns-then-lost
returns-then-lost c =
    on_each c.with_id.result
    (λ rdn h. h ∙ ap (λ (e : EntryFacts). with_id e.id e.rdn) c.entry.view_is ∙ shown_lost (present_of (facts_in c.args.rows.now.entries)) c.args.entry.now c.if-lost.ensures)
    c.with_id.ensures

pub returns : goal.returns
returns c =
    on_each c.copied.result
    (λ rdn h. h ∙ ap (λ (e : EntryFacts). e.rdn) c.entry.view_is ∙ shown_kept (present_of (facts_in c.args.rows.now.entries)) c.args.entry.now c.if-lost.ensures)
    c.copied.ensures
