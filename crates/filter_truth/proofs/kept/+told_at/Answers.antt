use Rattle.std.proofs.Common.{List, refl, sym, ap, ◌∙◌, map}
use Rattle.std.specs.List.{list_any}
use Rattle.filter_truth.specs.declared.prepared.Prepared.{Prepared}
use Rattle.filter_truth.specs.Three.{of_bool, negated, all_of, any_of}
use Rattle.filter_truth.specs.Truth.{Shows}
use Rattle.filter_truth.specs.Prepared.{ready_by}
use Rattle.filter_truth.specs.Lent.{shown_at, asks_names}
use Rattle.filter_truth.proofs.Equations.{ready-And, ready-Or, ready-Not, ready-Asserts, ready-Unreadable, ready-Nowhere, asks-And, asks-Or, asks-Not, asks-Asserts}
use Rattle.filter_truth.proofs.Untold.{any_at, told_as, untold_as}
use Rattle.filter_truth.proofs.kept.+told_at.Goals as goal

pub told_at-returns-in-And-clause-told : goal.told_at-returns-in-And-clause-told
told_at-returns-in-And-clause-told g t c =
    let shown : Shows = shown_at (g.V.View.view c.args.view.now) c.args.id in
    told_as c.all_told_at.result _ _
    (ap (λ (ps : List Prepared). all_of (map (ready_by shown) ps)) c.as_slice.ensures ∙ sym (ap (ready_by shown) c.in-And.is ∙ ready-And shown c.in-And.inside)) c.all_told_at.ensures.told

pub told_at-returns-in-And-clause-untold : goal.told_at-returns-in-And-clause-untold
told_at-returns-in-And-clause-untold g t c = λ none.
    untold_as (g.V.View.view c.args.view.now) c.args.id _ _ (ap (λ (ps : List Prepared). list_any asks_names ps) c.as_slice.ensures ∙ sym (ap asks_names c.in-And.is ∙ asks-And c.in-And.inside)) (c.all_told_at.ensures.untold none)

pub told_at-returns-in-Or-clause-told : goal.told_at-returns-in-Or-clause-told
told_at-returns-in-Or-clause-told g t c =
    let shown : Shows = shown_at (g.V.View.view c.args.view.now) c.args.id in
    told_as c.any_told_at.result _ _
    (ap (λ (ps : List Prepared). any_of (map (ready_by shown) ps)) c.as_slice-in-Or.ensures ∙ sym (ap (ready_by shown) c.in-Or.is ∙ ready-Or shown c.in-Or.inside)) c.any_told_at.ensures.told

pub told_at-returns-in-Or-clause-untold : goal.told_at-returns-in-Or-clause-untold
told_at-returns-in-Or-clause-untold g t c = λ none.
    untold_as (g.V.View.view c.args.view.now) c.args.id _ _ (ap (λ (ps : List Prepared). list_any asks_names ps) c.as_slice-in-Or.ensures ∙ sym (ap asks_names c.in-Or.is ∙ asks-Or c.in-Or.inside)) (c.any_told_at.ensures.untold none)

pub told_at-returns-in-Some-clause-told : goal.told_at-returns-in-Some-clause-told
told_at-returns-in-Some-clause-told g t c =
    let shown : Shows = shown_at (g.V.View.view c.args.view.now) c.args.id in
    c.negated.ensures ∙ ap negated (c.in-Some.ensures.told ∙ ap (ready_by shown) c.get.ensures)
    ∙ sym (ap (ready_by shown) c.in-Not.is ∙ ready-Not shown c.in-Not.inside)

pub told_at-returns-in-None-clause-untold : goal.told_at-returns-in-None-clause-untold
told_at-returns-in-None-clause-untold g t c = λ none.
    untold_as (g.V.View.view c.args.view.now) c.args.id _ _ (ap asks_names c.get.ensures ∙ sym (ap asks_names c.in-Not.is ∙ asks-Not c.in-Not.inside)) (c.in-None.ensures.untold refl)

pub told_at-returns-in-Some-shows_at-clause-told : goal.told_at-returns-in-Some-shows_at-clause-told
told_at-returns-in-Some-shows_at-clause-told g t c =
    let shown : Shows = shown_at (g.V.View.view c.args.view.now) c.args.id in
    c.of_bool.ensures ∙ ap of_bool c.in-Some-shows_at.ensures.told
    ∙ sym (ap (ready_by shown) c.in-Asserts.is ∙ ready-Asserts shown c.in-Asserts.asserted)

pub told_at-returns-in-None-shows_at-clause-untold : goal.told_at-returns-in-None-shows_at-clause-untold
told_at-returns-in-None-shows_at-clause-untold g t c = λ none.
    untold_as (g.V.View.view c.args.view.now) c.args.id _ _ (sym (ap asks_names c.in-Asserts.is ∙ asks-Asserts c.in-Asserts.asserted)) (c.in-None-shows_at.ensures.untold refl)

pub told_at-returns-in-Unreadable-clause-told : goal.told_at-returns-in-Unreadable-clause-told
told_at-returns-in-Unreadable-clause-told g t c =
    let shown : Shows = shown_at (g.V.View.view c.args.view.now) c.args.id in
    sym (ap (ready_by shown) c.in-Unreadable.is ∙ ready-Unreadable shown)

pub told_at-returns-in-Nowhere-clause-told : goal.told_at-returns-in-Nowhere-clause-told
told_at-returns-in-Nowhere-clause-told g t c =
    let shown : Shows = shown_at (g.V.View.view c.args.view.now) c.args.id in
    sym (ap (ready_by shown) c.in-Nowhere.is ∙ ready-Nowhere shown)
