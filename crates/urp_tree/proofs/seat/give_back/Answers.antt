use Rattle.std.proofs.Common.{sym, ap, subst, ◌∙◌}
use Rattle.urp_tree.specs.Rows.{facts_in, AreKeyed}
use Rattle.urp_tree.proofs.Moves.{facts_given, keyed_given, rows_given}
use Rattle.urp_tree.proofs.seat.give_back.Goals as goal

pub returns-then-is_free-clause-facts : goal.returns-then-is_free-clause-facts
returns-then-is_free-clause-facts c = ap facts_in c.remove.ensures.entries ∙ facts_given c.args.id c.args.rows.now.entries (c.is_free.ensures c.if-is_free.true)

pub returns-then-is_free-clause-keyed : goal.returns-then-is_free-clause-keyed
returns-then-is_free-clause-keyed c = λ k. subst AreKeyed (sym c.remove.ensures.entries) (keyed_given c.args.id c.args.rows.now.entries k)

pub returns-then-is_free-clause-rows : goal.returns-then-is_free-clause-rows
returns-then-is_free-clause-rows c = rows_given c.args.rows.now c.remove.new.self c.args.id (c.is_free.ensures c.if-is_free.true) c.remove.ensures.updates
