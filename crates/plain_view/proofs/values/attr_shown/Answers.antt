use Rattle.std.proofs.Common.{◌∙◌, ap, map}
use Rattle.repl_data.specs.Facts.{vals_shown}
use Rattle.repl_data.proofs.Loops.{map_same}
use Rattle.plain_view.proofs.values.attr_shown.Goals as goal

pub returns : goal.returns
returns c =
    c.in_ok-vals.ensures c.a.inside.whole
    ∙ (λ i. vals_shown c.args.rdn.now (record { attr = c.a.inside.attr; whole = c.a.inside.whole; vals = map (λ v. v) (c.as_slice.ensures i) }))
    ∙ (λ i. vals_shown c.args.rdn.now (record { attr = c.a.inside.attr; whole = c.a.inside.whole; vals = map_same c.a.inside.vals i }))
    ∙ ap (vals_shown c.args.rdn.now) c.a.view_is
