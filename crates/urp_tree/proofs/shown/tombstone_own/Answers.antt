use Rattle.std.proofs.Common.{Some, ap, ◌∙◌}
use Rattle.urp_tree.specs.Rows.{facts_in}
use Rattle.urp_tree.proofs.GoneLent.{gone_own_kept, gone_own_none}
use Rattle.urp_tree.proofs.shown.tombstone_own.Goals as goal

pub returns-in-Some : goal.returns-in-Some
returns-in-Some c = λ suffix. ap Some c.as_slice.ensures ∙ gone_own_kept (facts_in c.args.rows.now.entries) c.args.id c.in-Some.row.now c.in-Some.ensures.row c.in-Some.ensures.keeps suffix

pub returns-in-None : goal.returns-in-None
returns-in-None c = λ suffix. gone_own_none (facts_in c.args.rows.now.entries) c.args.id c.in-None.ensures.row suffix
