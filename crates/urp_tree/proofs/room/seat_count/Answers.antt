use Rattle.std.proofs.Common.{◌≤◌, length, sym, subst}
use Rattle.urp_tree.specs.Rows.{facts_in}
use Rattle.urp_tree.proofs.Ready.{length_facts}
use Rattle.urp_tree.proofs.room.seat_count.Goals as goal

pub returns-clause-facts : goal.returns-clause-facts
returns-clause-facts c = subst (λ n. length (facts_in c.args.rows.now.entries) ≤ n) (sym c.len.ensures.len) (length_facts c.args.rows.now.entries)
