use Rattle.std.proofs.Common.{◌∷◌, [], ap, ◌∙◌}
use Rattle.repl_data.specs.declared.csn.Uid.{Uid}
use Rattle.repl_data.specs.Facts.{attrs_shown}
use Rattle.repl_data.specs.View.{view_of_facts, dn_below, tombstone_rdn, shown_gone}
use Rattle.urp_tree.proofs.Fits.{on_each}
use Rattle.urp_tree.proofs.shown.gone_shown.Goals as goal

pub returns : goal.returns
returns c =
    on_each c.tombstone_shown.result
    (λ s h. λ es. h (attrs_shown c.args.row.now.entry) c.requires
    ∙ (λ i. shown_gone (c.entry_id-id.ensures i) ((c.in_ok-dn.ensures es ∙ ap (λ (u : Uid). dn_below (view_of_facts c.args.suffix.now es) (tombstone_rdn u ∷ [])) c.entry_id-id.ensures) i) (c.above-parent.ensures i) (attrs_shown c.args.row.now.entry)))
    c.tombstone_shown.ensures
