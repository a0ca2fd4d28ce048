use Rattle.std.proofs.Common.{sym, ◌∙◌}
use Rattle.search_core.proofs.Matches.{gone_own_rises, gone_match, gone_match_none}
use Rattle.search_core.proofs.matching.is_gone_match.Goals as goal

pub truth_of_tombstone-requires-clause-rises : goal.truth_of_tombstone-requires-clause-rises
truth_of_tombstone-requires-clause-rises g c = gone_own_rises (g.V.View.view c.args.view.now) c.args.id c.in-Some.own.now c.requires.gone (sym c.in-Some.ensures)

pub returns-in-Some : goal.returns-in-Some
returns-in-Some g c = λ f s.
    c.is_yes.ensures ∙ gone_match (g.V.View.view c.args.view.now) f c.args.id c.in-Some.own.now c.truth_of_tombstone.result (sym c.in-Some.ensures) (c.truth_of_tombstone.ensures f s)

pub returns-in-None : goal.returns-in-None
returns-in-None g c = λ f s. gone_match_none (g.V.View.view c.args.view.now) f c.args.id (sym c.in-None.ensures)
