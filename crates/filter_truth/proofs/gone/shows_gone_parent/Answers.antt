use Rattle.std.proofs.Common.{ℕ, Bool, List, ap, ◌∙◌}
use Rattle.filter_truth.specs.Prepared.{passes}
use Rattle.filter_truth.specs.Lent.{id_passes}
use Rattle.filter_truth.proofs.gone.shows_gone_parent.Goals as goal

pub returns-in-Some : goal.returns-in-Some
returns-in-Some g c =
    let test : List ℕ → Bool = passes c.args.asserted.now.attr.name c.args.asserted.now.test in
    c.passes_text.ensures ∙ ap test (c.as_slice.ensures ∙ c.text.ensures) ∙ ap (id_passes test) c.in-Some.ensures

pub returns-in-None : goal.returns-in-None
returns-in-None g c =
    let test : List ℕ → Bool = passes c.args.asserted.now.attr.name c.args.asserted.now.test in
    ap (id_passes test) c.in-None.ensures
