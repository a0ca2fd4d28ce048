use Rattle.std.proofs.Common.{ℕ, Bool, List, sym, ap, ◌∙◌}
use Rattle.repl_data.specs.Order.{bytes_eq}
use Rattle.filter_truth.specs.Prepared.{passes}
use Rattle.filter_truth.proofs.LentShows.{id_seen, other_seen}
use Rattle.filter_truth.proofs.lent.shows_at.Goals as goal

pub shows_class-requires-clause-named : goal.shows_class-requires-clause-named
shows_class-requires-clause-named g c = ap (bytes_eq c.args.asserted.now.attr.name) (sym c.as_slice.ensures) ∙ sym c.is_named.ensures ∙ c.if-is_named.true

pub shows_conflict-requires-clause-named : goal.shows_conflict-requires-clause-named
shows_conflict-requires-clause-named g c = ap (bytes_eq c.args.asserted.now.attr.name) (sym c.as_slice-3.ensures) ∙ sym c.is_named-3.ensures ∙ c.if-is_named-3.true

pub returns-then-is_named-2-clause-told : goal.returns-then-is_named-2-clause-told
returns-then-is_named-2-clause-told g c =
    let key = c.args.asserted.now.attr.name in
    let test : List ℕ → Bool = passes key c.args.asserted.now.test in
    c.passes_text.ensures ∙ ap test (c.as_slice-then-is_named-2.ensures ∙ c.text.ensures)
    ∙ sym (id_seen (g.V.View.view c.args.view.now) c.args.id c.args.own.now c.requires.rises c.requires.lent key test (ap (bytes_eq key) (sym c.as_slice-2.ensures) ∙ sym c.is_named-2.ensures ∙ c.if-is_named-2.true))

pub returns-clause-told : goal.returns-clause-told
returns-clause-told g c =
    let key = c.args.asserted.now.attr.name in
    let test : List ℕ → Bool = passes key c.args.asserted.now.test in
    c.shows.ensures
    ∙ sym
    (other_seen (g.V.View.view c.args.view.now) c.args.id c.args.own.now c.requires.rises c.requires.lent key test
    (ap (bytes_eq key) (sym c.as_slice-2.ensures) ∙ sym c.is_named-2.ensures ∙ c.if-is_named-2.false)
    (ap (bytes_eq key) (sym c.as_slice-3.ensures) ∙ sym c.is_named-3.ensures ∙ c.if-is_named-3.false)
    (ap (bytes_eq key) (sym c.as_slice.ensures) ∙ sym c.is_named.ensures ∙ c.if-is_named.false))
