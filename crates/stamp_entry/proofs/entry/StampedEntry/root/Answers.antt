use Rattle.std.proofs.Common.{sym, ap, ◌∙◌, append-nil}
use Rattle.repl_data.specs.Order.{zero_csn, suffix_id}
use Rattle.repl_data.specs.Stamps.{suffix_acts}
use Rattle.repl_data.specs.Facts.{attrs_facts}
use Rattle.stamp_entry.proofs.entry.StampedEntry.root.Goals as goal

pub returns-clause-facts : goal.returns-clause-facts
returns-clause-facts c =
    let attrs = c.in_ok-attrs.ensures.given ∙ ap attrs_facts (sym (append-nil (suffix_acts c.args.suffix.now))) in
    λ i. record { id = suffix_id; parent = suffix_id; named = zero_csn; dead = zero_csn; rdn = c.in_ok-rdn.ensures i; attrs = attrs i }
