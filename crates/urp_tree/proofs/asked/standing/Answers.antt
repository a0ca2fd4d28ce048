use Rattle.urp_tree.specs.Rows.{facts_in}
use Rattle.urp_tree.proofs.Lost.{standing_kept, standing_none}
use Rattle.urp_tree.proofs.asked.standing.Goals as goal

pub lost-lost-requires-clause-parent : goal.lost-lost-requires-clause-parent
lost-lost-requires-clause-parent c = c.in-Some.ensures.keeps.parent

pub returns-in-Some : goal.returns-in-Some
returns-in-Some c = λ suffix. standing_kept (facts_in c.args.rows.now.entries) c.args.id c.in-Some.row.now c.in-Some.ensures.row c.in-Some.ensures.keeps suffix _ _ c.is_live.ensures c.lost-lost.ensures

pub returns-in-None : goal.returns-in-None
returns-in-None c = λ suffix. standing_none (facts_in c.args.rows.now.entries) c.args.id c.in-None.ensures.row suffix
