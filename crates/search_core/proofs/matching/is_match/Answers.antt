use Rattle.std.proofs.Common.{sym}
use Rattle.search_core.proofs.Matches.{own_rises}
use Rattle.search_core.proofs.matching.is_match.Goals as goal

pub is_lent_match-requires-clause-rises : goal.is_lent_match-requires-clause-rises
is_lent_match-requires-clause-rises g c = own_rises (g.V.View.view c.args.view.now) c.args.id c.in-Some.own.now c.requires.attrs (sym c.in-Some.ensures)
