use Rattle.std.proofs.Common.{ap, ◌∙◌}
use Rattle.stamp_entry.specs.Raised.{facts_after}
use Rattle.stamp_entry.proofs.Next.{own_facts-next}
use Rattle.stamp_entry.proofs.entry.StampedEntry.applied.Goals as goal

pub returns-clause-facts : goal.returns-clause-facts
returns-clause-facts c = λ suffix own past now.
    c.in_ok-next.ensures.exact ∙ ap (facts_after c.args.change.now) now ∙ own_facts-next suffix c.args.self.now.id own c.args.change.now c.requires.sound c.requires.target past
