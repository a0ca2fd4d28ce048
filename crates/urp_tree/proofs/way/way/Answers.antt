use Rattle.std.proofs.Common.{◌≡◌, None, sym, ap, ◌∙◌}
use Rattle.std.specs.Option.{option_copied}
use Rattle.repl_data.specs.Facts.{EntryFacts}
use Rattle.urp_tree.specs.Rows.{row_at}
use Rattle.urp_tree.proofs.Fits.{on_each, way_new}
use Rattle.urp_tree.proofs.way.way.Goals as goal

pub returns-in-None : goal.returns-in-None
returns-in-None c =
    let new : row_at c.args.rows.now c.args.new.now.id ≡ None = ap (λ (e : EntryFacts). row_at c.args.rows.now e.id) (sym c.new.view_is) ∙ sym c.row_of.ensures ∙ ap option_copied c.in-None.is in
    on_each c.coming.result
    (λ ss h. way_new c.args.rows.now c.requires.tree c.requires.ordered c.args.new.now ss new c.requires.child c.requires.below (c.requires.live new) h)
    c.coming.ensures
