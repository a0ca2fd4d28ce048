use Rattle.std.proofs.Common.{ap, ◌∙◌, sym, subst}
use Rattle.std.specs.Option.{option_copied_mut}
use Rattle.repl_data.specs.Order.{uid_cmp}
use Rattle.std.specs.BTreeMap.{is_at}
use Rattle.urp_tree.specs.Rows.{facts_in, AreKeyed}
use Rattle.urp_tree.proofs.Moves.{facts_written, keyed_written, fact_keeps}
use Rattle.urp_tree.proofs.seat.tidy.Goals as goal

pub returns-in-Some-clause-facts : goal.returns-in-Some-clause-facts
returns-in-Some-clause-facts c =
    ap facts_in (c.get_mut.follows.holds c.tidy_seat.new.seat).0
    ∙ facts_written (is_at (uid_cmp c.args.parent)) c.args.rows.now.entries c.in-Some.seat.now c.tidy_seat.new.seat (sym c.get_mut.ensures.value ∙ ap option_copied_mut c.in-Some.is) (fact_keeps c.in-Some.seat.now c.tidy_seat.new.seat c.tidy_seat.ensures)

pub returns-in-Some-clause-keyed : goal.returns-in-Some-clause-keyed
returns-in-Some-clause-keyed c = λ k.
    subst AreKeyed (sym (c.get_mut.follows.holds c.tidy_seat.new.seat).0)
    (keyed_written (is_at (uid_cmp c.args.parent)) c.args.rows.now.entries c.in-Some.seat.now c.tidy_seat.new.seat (sym c.get_mut.ensures.value ∙ ap option_copied_mut c.in-Some.is) (fact_keeps c.in-Some.seat.now c.tidy_seat.new.seat c.tidy_seat.ensures) k)
