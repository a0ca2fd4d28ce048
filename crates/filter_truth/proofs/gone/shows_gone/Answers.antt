use Rattle.std.proofs.Common.{ℕ, Bool, List, sym, ap, ◌∙◌}
use Rattle.repl_data.specs.Order.{bytes_eq}
use Rattle.filter_truth.specs.Prepared.{passes}
use Rattle.filter_truth.proofs.GoneShows.{gone_id_seen, gone_parent_seen, gone_class_seen, gone_other_seen}
use Rattle.filter_truth.proofs.gone.shows_gone.Goals as goal

pub returns-then-is_named : goal.returns-then-is_named
returns-then-is_named g c =
    let key = c.args.asserted.now.attr.name in
    let test : List ℕ → Bool = passes key c.args.asserted.now.test in
    c.shows_gone_class.ensures
    ∙ sym (gone_class_seen (g.V.View.view c.args.view.now) c.args.id c.args.own.now c.requires.rises c.requires.lent key test (ap (bytes_eq key) (sym c.as_slice.ensures) ∙ sym c.is_named.ensures ∙ c.if-is_named.true))

pub returns-then-is_named-2 : goal.returns-then-is_named-2
returns-then-is_named-2 g c =
    let key = c.args.asserted.now.attr.name in
    let test : List ℕ → Bool = passes key c.args.asserted.now.test in
    c.passes_text.ensures ∙ ap test (c.as_slice-then-is_named-2.ensures ∙ c.text.ensures)
    ∙ sym (gone_id_seen (g.V.View.view c.args.view.now) c.args.id c.args.own.now c.requires.rises c.requires.lent key test (ap (bytes_eq key) (sym c.as_slice-2.ensures) ∙ sym c.is_named-2.ensures ∙ c.if-is_named-2.true))

pub returns-then-is_named-3 : goal.returns-then-is_named-3
returns-then-is_named-3 g c =
    let key = c.args.asserted.now.attr.name in
    let test : List ℕ → Bool = passes key c.args.asserted.now.test in
    c.shows_gone_parent.ensures
    ∙ sym (gone_parent_seen (g.V.View.view c.args.view.now) c.args.id c.args.own.now c.requires.rises c.requires.lent key test (ap (bytes_eq key) (sym c.as_slice-3.ensures) ∙ sym c.is_named-3.ensures ∙ c.if-is_named-3.true))

pub returns : goal.returns
returns g c =
    let key = c.args.asserted.now.attr.name in
    let test : List ℕ → Bool = passes key c.args.asserted.now.test in
    c.shows.ensures
    ∙ sym
    (gone_other_seen (g.V.View.view c.args.view.now) c.args.id c.args.own.now c.requires.rises c.requires.lent key test
    (ap (bytes_eq key) (sym c.as_slice-2.ensures) ∙ sym c.is_named-2.ensures ∙ c.if-is_named-2.false)
    (ap (bytes_eq key) (sym c.as_slice-3.ensures) ∙ sym c.is_named-3.ensures ∙ c.if-is_named-3.false)
    (ap (bytes_eq key) (sym c.as_slice.ensures) ∙ sym c.is_named.ensures ∙ c.if-is_named.false))
