use Rattle.std.proofs.Common.{List, sym, ap, ◌∙◌, map}
use Rattle.filter_truth.specs.declared.prepared.Prepared.{Prepared}
use Rattle.filter_truth.specs.Three.{of_bool, negated, all_of, any_of}
use Rattle.filter_truth.specs.Truth.{Shows, shows}
use Rattle.filter_truth.specs.Prepared.{ready_by}
use Rattle.filter_truth.proofs.Equations.{ready-And, ready-Or, ready-Not, ready-Asserts, ready-Unreadable, ready-Nowhere}
use Rattle.filter_truth.proofs.prepared.+told.Goals as goal

pub told-returns-in-And : goal.told-returns-in-And
told-returns-in-And t c =
    let shown : Shows = shows c.args.attrs.now in
    c.all_told.ensures ∙ ap (λ (ps : List Prepared). all_of (map (ready_by shown) ps)) c.as_slice.ensures
    ∙ sym (ap (ready_by shown) c.in-And.is ∙ ready-And shown c.in-And.inside)

pub told-returns-in-Or : goal.told-returns-in-Or
told-returns-in-Or t c =
    let shown : Shows = shows c.args.attrs.now in
    c.any_told.ensures ∙ ap (λ (ps : List Prepared). any_of (map (ready_by shown) ps)) c.as_slice-in-Or.ensures
    ∙ sym (ap (ready_by shown) c.in-Or.is ∙ ready-Or shown c.in-Or.inside)

pub told-returns-in-Not : goal.told-returns-in-Not
told-returns-in-Not t c =
    let shown : Shows = shows c.args.attrs.now in
    c.negated.ensures ∙ ap negated (c.told.ensures ∙ ap (ready_by shown) c.get.ensures)
    ∙ sym (ap (ready_by shown) c.in-Not.is ∙ ready-Not shown c.in-Not.inside)

pub told-returns-in-Asserts : goal.told-returns-in-Asserts
told-returns-in-Asserts t c =
    let shown : Shows = shows c.args.attrs.now in
    c.of_bool.ensures ∙ ap of_bool c.shows.ensures
    ∙ sym (ap (ready_by shown) c.in-Asserts.is ∙ ready-Asserts shown c.in-Asserts.asserted)

pub told-returns-in-Unreadable : goal.told-returns-in-Unreadable
told-returns-in-Unreadable t c =
    let shown : Shows = shows c.args.attrs.now in
    sym (ap (ready_by shown) c.in-Unreadable.is ∙ ready-Unreadable shown)

pub told-returns-in-Nowhere : goal.told-returns-in-Nowhere
told-returns-in-Nowhere t c =
    let shown : Shows = shows c.args.attrs.now in
    sym (ap (ready_by shown) c.in-Nowhere.is ∙ ready-Nowhere shown)
