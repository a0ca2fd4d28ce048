use Rattle.std.proofs.Common.{List, sym, ap, ◌∙◌, map}
use Rattle.filter_truth.specs.declared.prepared.Prepared.{Prepared}
use Rattle.filter_truth.specs.Three.{of_bool, negated, all_of, any_of}
use Rattle.filter_truth.specs.Truth.{Shows}
use Rattle.filter_truth.specs.Prepared.{ready_by}
use Rattle.filter_truth.specs.Lent.{gone_shown_at}
use Rattle.filter_truth.proofs.Equations.{ready-And, ready-Or, ready-Not, ready-Asserts, ready-Unreadable, ready-Nowhere}
use Rattle.filter_truth.proofs.gone.+told_gone.Goals as goal

pub told_gone-returns-in-And : goal.told_gone-returns-in-And
told_gone-returns-in-And g t c =
    let shown : Shows = gone_shown_at (g.V.View.view c.args.view.now) c.args.id in
    c.all_told_gone.ensures ∙ ap (λ (ps : List Prepared). all_of (map (ready_by shown) ps)) c.as_slice.ensures
    ∙ sym (ap (ready_by shown) c.in-And.is ∙ ready-And shown c.in-And.inside)

pub told_gone-returns-in-Or : goal.told_gone-returns-in-Or
told_gone-returns-in-Or g t c =
    let shown : Shows = gone_shown_at (g.V.View.view c.args.view.now) c.args.id in
    c.any_told_gone.ensures ∙ ap (λ (ps : List Prepared). any_of (map (ready_by shown) ps)) c.as_slice-in-Or.ensures
    ∙ sym (ap (ready_by shown) c.in-Or.is ∙ ready-Or shown c.in-Or.inside)

pub told_gone-returns-in-Not : goal.told_gone-returns-in-Not
told_gone-returns-in-Not g t c =
    let shown : Shows = gone_shown_at (g.V.View.view c.args.view.now) c.args.id in
    c.negated.ensures ∙ ap negated (c.told_gone.ensures ∙ ap (ready_by shown) c.get.ensures)
    ∙ sym (ap (ready_by shown) c.in-Not.is ∙ ready-Not shown c.in-Not.inside)

pub told_gone-returns-in-Asserts : goal.told_gone-returns-in-Asserts
told_gone-returns-in-Asserts g t c =
    let shown : Shows = gone_shown_at (g.V.View.view c.args.view.now) c.args.id in
    c.of_bool.ensures ∙ ap of_bool c.shows_gone.ensures
    ∙ sym (ap (ready_by shown) c.in-Asserts.is ∙ ready-Asserts shown c.in-Asserts.asserted)

pub told_gone-returns-in-Unreadable : goal.told_gone-returns-in-Unreadable
told_gone-returns-in-Unreadable g t c =
    let shown : Shows = gone_shown_at (g.V.View.view c.args.view.now) c.args.id in
    sym (ap (ready_by shown) c.in-Unreadable.is ∙ ready-Unreadable shown)

pub told_gone-returns-in-Nowhere : goal.told_gone-returns-in-Nowhere
told_gone-returns-in-Nowhere g t c =
    let shown : Shows = gone_shown_at (g.V.View.view c.args.view.now) c.args.id in
    sym (ap (ready_by shown) c.in-Nowhere.is ∙ ready-Nowhere shown)
