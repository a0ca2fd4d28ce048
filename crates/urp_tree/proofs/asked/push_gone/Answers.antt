use Rattle.std.proofs.Common.{List, ◌++◌, Option, refl, sym, ap, ◌∙◌, append-nil}
use Rattle.repl_data.specs.declared.csn.Uid.{Uid}
use Rattle.urp_tree.specs.declared.row.Row.{Row}
use Rattle.urp_tree.specs.Rows.{taken, fact_of, facts_in}
use Rattle.urp_tree.specs.Seen.{gone_ids}
use Rattle.urp_tree.proofs.Gone.{gone_one, gone_not}
use Rattle.urp_tree.proofs.asked.push_gone.Goals as goal

pub returns-then-shows : goal.returns-then-shows
returns-then-shows c =
    sym (append-nil c.args.ids.now)
    ∙ ap (λ (us : List Uid). c.args.ids.now ++ us)
    (sym (ap (λ (o : Option Row). gone_ids (facts_in c.args.rows.now.entries) (fact_of o)) c.in-Some.is
    ∙ gone_not c.args.rows.now c.requires.tree c.seat_count-seats.ensures.ordered c.args.id c.in-Some.row (ap taken c.requires.there ∙ c.in-Some.is) (c.if-shows.ensures.yes refl)))

pub returns : goal.returns
returns c =
    c.in_ok-push.ensures.ok
    ∙ ap (λ (us : List Uid). c.args.ids.now ++ us)
    (sym (ap (λ (o : Option Row). gone_ids (facts_in c.args.rows.now.entries) (fact_of o)) c.in-Some.is
    ∙ gone_one c.args.rows.now c.requires.tree c.seat_count-seats.ensures.ordered c.args.id c.in-Some.row (ap taken c.requires.there ∙ c.in-Some.is) (c.if-shows.ensures.no refl)))
