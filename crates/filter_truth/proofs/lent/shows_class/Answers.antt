use Rattle.std.proofs.Common.{ℕ, Bool, List, sym, ap, ◌∙◌}
use Rattle.filter_truth.specs.Prepared.{passes}
use Rattle.filter_truth.proofs.LentShows.{class_own, class_none, class_glue, never_none}
use Rattle.filter_truth.proofs.lent.shows_class.Goals as goal

pub returns-then-shows : goal.returns-then-shows
returns-then-shows g c =
    let key = c.args.asserted.now.attr.name in
    let test : List ℕ → Bool = passes key c.args.asserted.now.test in
    sym (class_own (g.V.View.view c.args.view.now) c.args.id c.args.own.now c.requires.rises c.requires.lent key test c.requires.named (sym c.shows.ensures ∙ c.if-shows.true))

pub returns-then-not-passes_text : goal.returns-then-not-passes_text
returns-then-not-passes_text g c =
    let key = c.args.asserted.now.attr.name in
    let test : List ℕ → Bool = passes key c.args.asserted.now.test in
    sym
    (class_none (g.V.View.view c.args.view.now) c.args.id c.args.own.now c.requires.rises c.requires.lent key test c.requires.named (sym c.shows.ensures ∙ c.if-shows.false)
    (sym (c.passes_text.ensures ∙ ap test c.as_slice.ensures) ∙ c.if-not-passes_text.true))

pub returns-in-Some : goal.returns-in-Some
returns-in-Some g c =
    let key = c.args.asserted.now.attr.name in
    let test : List ℕ → Bool = passes key c.args.asserted.now.test in
    sym
    (class_glue (g.V.View.view c.args.view.now) c.args.id c.args.own.now c.requires.rises c.requires.lent key test c.in-Some.standing (sym c.in-Some.ensures) c.requires.named
    (sym c.shows.ensures ∙ c.if-shows.false) (sym (c.passes_text.ensures ∙ ap test c.as_slice.ensures) ∙ c.if-not-passes_text.false))

pub returns-in-None : goal.returns-in-None
returns-in-None g c = absurd (never_none (g.V.View.view c.args.view.now) c.args.id c.args.own.now c.requires.rises c.requires.lent (sym c.in-None.ensures))
