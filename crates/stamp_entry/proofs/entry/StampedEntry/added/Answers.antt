use Rattle.std.proofs.Common.{◌∙◌}
use Rattle.repl_data.specs.Order.{zero_csn, suffix_id}
use Rattle.stamp_entry.specs.Raised.{facts_after}
use Rattle.stamp_entry.proofs.Next.{added_facts}
use Rattle.stamp_entry.proofs.entry.StampedEntry.added.Goals as goal

pub returns-clause-facts : goal.returns-clause-facts
returns-clause-facts c = λ suffix.
    c.in_ok-added.ensures.exact
    ∙ (λ i. facts_after c.args.change.now (record { id = c.args.change.now.target; parent = suffix_id; named = zero_csn; dead = zero_csn; rdn = record { avas = c.new.result }; attrs = c.new-2.ensures i }))
    ∙ added_facts suffix c.args.change.now (record { avas = c.new.result }) c.requires.sound c.requires.add
