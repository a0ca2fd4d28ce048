use Rattle.std.proofs.Common.{◌∙◌}
use Rattle.shown_entry.proofs.Users.{gone_from}
use Rattle.shown_entry.proofs.shown.tombstone_shown.Goals as goal

pub returns : goal.returns
returns c = λ attrs h.
    (λ i. record { id = c.args.id; dn = c.args.dn; attrs = c.in_ok-attrs.ensures i }) ∙ gone_from c.args.id c.args.dn c.args.parent c.args.users.now attrs h
