use Rattle.std.proofs.Common.{ap, ◌∙◌}
use Rattle.repl_data.specs.Stamps.{Clears}
use Rattle.stamp_entry.proofs.Taken.{put_back, ordered_back}
use Rattle.stamp_entry.proofs.raise.clear.Goals as goal

pub returns-clause-raised : goal.returns-clause-raised
returns-clause-raised c =
    put_back (Clears c.args.stamp c.args.attr.now) c.args.attrs.now c.take.new.attrs c.put_by_key.new.items c.in_ok-taken.taken c.clear.new.self c.in_ok-taken.ensures.attr (c.in_ok-clear.ensures c.args.attr.now)
    (ap (λ a. a.attr.name) (c.in_ok-clear.ensures c.args.attr.now) ∙ c.in_ok-taken.ensures.name) c.in_ok-taken.ensures.rest c.in_ok-put_by_key.ensures.value

pub returns-clause-ordered : goal.returns-clause-ordered
returns-clause-ordered c =
    ordered_back (Clears c.args.stamp c.args.attr.now) c.args.attrs.now c.put_by_key.new.items c.requires (put_back (Clears c.args.stamp c.args.attr.now) c.args.attrs.now c.take.new.attrs c.put_by_key.new.items c.in_ok-taken.taken c.clear.new.self c.in_ok-taken.ensures.attr (c.in_ok-clear.ensures c.args.attr.now)
    (ap (λ a. a.attr.name) (c.in_ok-clear.ensures c.args.attr.now) ∙ c.in_ok-taken.ensures.name) c.in_ok-taken.ensures.rest c.in_ok-put_by_key.ensures.value)
