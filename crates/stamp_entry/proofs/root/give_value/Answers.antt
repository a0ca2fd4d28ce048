use Rattle.std.proofs.Common.{sym, subst}
use Rattle.stamp_entry.specs.Ordered.{AreOrdered}
use Rattle.stamp_entry.proofs.Front.{given_back, given-ordered}
use Rattle.stamp_entry.proofs.root.give_value.Goals as goal

pub returns-clause-given : goal.returns-clause-given
returns-clause-given c =
    given_back c.args.attr.now c.args.val.now c.args.attrs.now c.take.new.attrs c.put_by_key.new.items c.in_ok-taken.taken c.give.new.self c.in_ok-taken.ensures.attr c.in_ok-give.ensures c.in_ok-taken.ensures.name c.in_ok-taken.ensures.rest c.in_ok-put_by_key.ensures.value

pub returns-clause-ordered : goal.returns-clause-ordered
returns-clause-ordered c =
    subst AreOrdered
    (sym (given_back c.args.attr.now c.args.val.now c.args.attrs.now c.take.new.attrs c.put_by_key.new.items c.in_ok-taken.taken c.give.new.self c.in_ok-taken.ensures.attr c.in_ok-give.ensures c.in_ok-taken.ensures.name c.in_ok-taken.ensures.rest c.in_ok-put_by_key.ensures.value))
    (given-ordered c.args.attr.now c.args.val.now c.args.attrs.now c.requires)
