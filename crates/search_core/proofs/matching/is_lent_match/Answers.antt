use Rattle.std.proofs.Common.{◌∙◌}
use Rattle.search_core.proofs.Matches.{lent_match}
use Rattle.search_core.proofs.matching.is_lent_match.Goals as goal

pub returns-in-Some-clause-told : goal.returns-in-Some-clause-told
returns-in-Some-clause-told g c = λ f s.
    c.is_yes.ensures ∙ lent_match (g.V.View.view c.args.view.now) f c.args.id c.args.own.now c.in-Some.truth c.requires.lent (c.in-Some.ensures.told f s)
