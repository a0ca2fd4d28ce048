use Rattle.std.proofs.Common.{ℕ, Bool, List, sym, ap, ◌∙◌}
use Rattle.filter_truth.specs.Prepared.{passes}
use Rattle.filter_truth.proofs.LentShows.{untold, lost_seen, glue_seen, plain_seen, unseen}
use Rattle.filter_truth.proofs.lent.shows_conflict_by.Goals as goal

pub returns-then-looks-clause-untold : goal.returns-then-looks-clause-untold
returns-then-looks-clause-untold g c = λ none.
    untold (g.V.View.view c.args.view.now) c.args.id c.args.standing c.args.asserted.now c.requires.stands c.if-standing.true c.requires.named (sym c.looks.ensures ∙ c.if-looks.true)

pub returns-then-standing-clause-told : goal.returns-then-standing-clause-told
returns-then-standing-clause-told g c =
    let key = c.args.asserted.now.attr.name in
    let test : List ℕ → Bool = passes key c.args.asserted.now.test in
    sym
    (lost_seen (g.V.View.view c.args.view.now) c.args.id c.args.own.now c.requires.rises c.requires.lent key test c.args.standing c.requires.stands c.requires.named c.if-standing.true
    (unseen c.args.asserted.now.test key (sym c.looks.ensures ∙ c.if-looks.false)))

pub returns-then-standing-2-clause-told : goal.returns-then-standing-2-clause-told
returns-then-standing-2-clause-told g c =
    let key = c.args.asserted.now.attr.name in
    let test : List ℕ → Bool = passes key c.args.asserted.now.test in
    c.passes_text.ensures ∙ ap test c.as_slice.ensures
    ∙ sym (glue_seen (g.V.View.view c.args.view.now) c.args.id c.args.own.now c.requires.rises c.requires.lent key test c.args.standing c.requires.stands c.requires.named c.if-standing.false c.if-standing-2.true)

pub returns-clause-told : goal.returns-clause-told
returns-clause-told g c =
    let key = c.args.asserted.now.attr.name in
    let test : List ℕ → Bool = passes key c.args.asserted.now.test in
    c.shows.ensures
    ∙ sym (plain_seen (g.V.View.view c.args.view.now) c.args.id c.args.own.now c.requires.rises c.requires.lent key test c.args.standing c.requires.stands c.requires.named c.if-standing.false c.if-standing-2.false)
