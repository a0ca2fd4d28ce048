use Rattle.std.proofs.Common.{ap, ◌∙◌}
use Rattle.repl_data.specs.Facts.{attrs_shown}
use Rattle.repl_data.specs.Presence.{present_of, is_among_entries}
use Rattle.repl_data.specs.View.{DirectoryView, view_of_facts, dn_of, shown_present}
use Rattle.urp_tree.specs.Rows.{facts_in}
use Rattle.urp_tree.proofs.Fits.{on_each}
use Rattle.urp_tree.proofs.Lost.{lost_dn_is}
use Rattle.urp_tree.proofs.shown.present_shown.Goals as goal

pub dn-requires-clause-there : goal.dn-requires-clause-there
dn-requires-clause-there c = ap (is_among_entries (present_of (facts_in c.args.rows.now.entries))) c.entry_id-id.ensures ∙ c.requires.here.own

pub lost_dn-requires-clause-parent : goal.lost_dn-requires-clause-parent
lost_dn-requires-clause-parent c = c.requires.here.parent

pub returns : goal.returns
returns c =
    let e = c.args.row.now.entry in
    let v : DirectoryView = view_of_facts c.args.suffix.now (facts_in c.args.rows.now.entries) in
    on_each c.present_shown.result
    (λ s h. h (attrs_shown e) c.requires.keeps.shown
    ∙ (λ i. shown_present (c.entry_id-id.ensures i) ((c.in_ok-dn.ensures ∙ ap (dn_of v) c.entry_id-id.ensures) i) (c.is_glue-glue.ensures i)
    ((c.in_ok-lost.ensures ∙ lost_dn_is v (present_of (facts_in c.args.rows.now.entries)) e c.requires.keeps.plain c.requires.keeps.root) i) (attrs_shown e)))
    c.present_shown.ensures
