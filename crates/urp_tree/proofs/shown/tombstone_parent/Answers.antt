use Rattle.std.proofs.Common.{Some, ap, ◌∙◌}
use Rattle.urp_tree.specs.Rows.{facts_in}
use Rattle.urp_tree.proofs.GoneLent.{gone_parent_kept, gone_parent_none}
use Rattle.urp_tree.proofs.shown.tombstone_parent.Goals as goal

pub returns-in-Some : goal.returns-in-Some
returns-in-Some c = λ suffix. ap Some c.above.ensures ∙ gone_parent_kept (facts_in c.args.rows.now.entries) c.args.id c.in-Some.row.now c.in-Some.ensures.row suffix

pub returns-in-None : goal.returns-in-None
returns-in-None c = λ suffix. gone_parent_none (facts_in c.args.rows.now.entries) c.args.id c.in-None.ensures.row suffix
