use Rattle.std.proofs.Common.{List, sym, ap, ◌∙◌, map}
use Rattle.ldap_types.specs.declared.request.Filter.{Filter}
use Rattle.ldap_types.specs.declared.request.Filter.TheVariants as filter
use Rattle.filter_truth.specs.declared.prepared.Prepared.{Prepared}
use Rattle.filter_truth.specs.declared.prepared.Prepared.TheVariants as ready
use Rattle.filter_truth.specs.declared.test.Comparison.TheVariants.{Equal, AtLeast, AtMost}
use Rattle.filter_truth.specs.Three.{of_bool, negated, all_of, any_of}
use Rattle.filter_truth.specs.Truth.{truth_by, told, asserted, compares, with_pieces, attr_of, is_there}
use Rattle.filter_truth.specs.Prepared.{ready_by}
use Rattle.filter_truth.proofs.Equations.{ready-And, ready-Or, ready-Not, ready-Unreadable, truth-And, truth-Or, truth-Not, truth-Equality, truth-Approximate, truth-AtLeast, truth-AtMost, truth-Present, truth-Substrings, truth-Extensible}
use Rattle.filter_truth.proofs.Names.{stands_from}
use Rattle.filter_truth.proofs.prepared.+prepare.Goals as goal

pub prepare-returns-in-Extensible : goal.prepare-returns-in-Extensible
prepare-returns-in-Extensible t c = λ shown. ready-Unreadable shown ∙ sym (ap (truth_by shown) c.in-Extensible.is ∙ truth-Extensible shown)

pub prepare-returns-in_ok-prepare_all-in-And : goal.prepare-returns-in_ok-prepare_all-in-And
prepare-returns-in_ok-prepare_all-in-And t c = λ shown.
    ready-And shown c.in_ok-prepare_all-in-And.field-0
    ∙ ap all_of (c.in_ok-prepare_all-in-And.ensures shown ∙ ap (λ (fs : List Filter). map (truth_by shown) fs) c.as_slice.ensures)
    ∙ sym (ap (truth_by shown) c.in-And.is ∙ truth-And shown c.in-And.inside)

pub prepare-returns-in_ok-prepare_all-in-Or : goal.prepare-returns-in_ok-prepare_all-in-Or
prepare-returns-in_ok-prepare_all-in-Or t c = λ shown.
    ready-Or shown c.in_ok-prepare_all-in-Or.field-0
    ∙ ap any_of (c.in_ok-prepare_all-in-Or.ensures shown ∙ ap (λ (fs : List Filter). map (truth_by shown) fs) c.as_slice-in-Or.ensures)
    ∙ sym (ap (truth_by shown) c.in-Or.is ∙ truth-Or shown c.in-Or.inside)

pub prepare-returns-in_ok-new-in-Not : goal.prepare-returns-in_ok-new-in-Not
prepare-returns-in_ok-new-in-Not t c = λ shown.
    ap (λ (p : Prepared). ready_by shown (ready.Not p)) c.in_ok-new-in-Not.ensures
    ∙ ready-Not shown c.in_ok-inner-in-Not.inner
    ∙ ap negated (c.in_ok-inner-in-Not.ensures shown ∙ ap (truth_by shown) c.get.ensures)
    ∙ sym (ap (truth_by shown) c.in-Not.is ∙ truth-Not shown c.in-Not.inside)

pub prepare-returns-in-Equality : goal.prepare-returns-in-Equality
prepare-returns-in-Equality t c =
    stands_from c.args.filter.now (filter.Equality c.in-Equality.name c.in-Equality.value) (λ shown. told shown (asserted (compares Equal c.in-Equality.value) (attr_of c.in-Equality.name))) c.compares.result c.in-Equality.is
    (λ shown. truth-Equality shown c.in-Equality.name c.in-Equality.value) c.compares.ensures

pub prepare-returns-in-Approximate : goal.prepare-returns-in-Approximate
prepare-returns-in-Approximate t c =
    stands_from c.args.filter.now (filter.Approximate c.in-Approximate.name c.in-Approximate.value) (λ shown. told shown (asserted (compares Equal c.in-Approximate.value) (attr_of c.in-Approximate.name))) c.compares-in-Approximate.result c.in-Approximate.is
    (λ shown. truth-Approximate shown c.in-Approximate.name c.in-Approximate.value) c.compares-in-Approximate.ensures

pub prepare-returns-in-AtLeast : goal.prepare-returns-in-AtLeast
prepare-returns-in-AtLeast t c =
    stands_from c.args.filter.now (filter.AtLeast c.in-AtLeast.name c.in-AtLeast.value) (λ shown. told shown (asserted (compares AtLeast c.in-AtLeast.value) (attr_of c.in-AtLeast.name))) c.compares-in-AtLeast.result c.in-AtLeast.is
    (λ shown. truth-AtLeast shown c.in-AtLeast.name c.in-AtLeast.value) c.compares-in-AtLeast.ensures

pub prepare-returns-in-AtMost : goal.prepare-returns-in-AtMost
prepare-returns-in-AtMost t c =
    stands_from c.args.filter.now (filter.AtMost c.in-AtMost.name c.in-AtMost.value) (λ shown. told shown (asserted (compares AtMost c.in-AtMost.value) (attr_of c.in-AtMost.name))) c.compares-in-AtMost.result c.in-AtMost.is
    (λ shown. truth-AtMost shown c.in-AtMost.name c.in-AtMost.value) c.compares-in-AtMost.ensures

pub prepare-returns-in-Present : goal.prepare-returns-in-Present
prepare-returns-in-Present t c =
    stands_from c.args.filter.now (filter.Present c.in-Present.name) (λ shown. of_bool (is_there shown (attr_of c.in-Present.name))) c.present.result c.in-Present.is
    (λ shown. truth-Present shown c.in-Present.name) c.present.ensures

pub prepare-returns-in_ok-asserted-in-Substrings : goal.prepare-returns-in_ok-asserted-in-Substrings
prepare-returns-in_ok-asserted-in-Substrings t c = λ shown.
    c.asserting.ensures shown
    ∙ ap (told shown)
    (c.in_ok-asserted-in-Substrings.ensures
    ∙ (λ i. asserted (with_pieces c.in-Substrings.first (c.as_slice-in-Substrings-2.ensures i) c.in-Substrings.last) (attr_of (c.as_slice-in-Substrings.ensures i))))
    ∙ sym (ap (truth_by shown) c.in-Substrings.is ∙ truth-Substrings shown c.in-Substrings.name c.in-Substrings.first c.in-Substrings.middle c.in-Substrings.last)
