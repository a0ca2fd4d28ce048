use Rattle.std.proofs.Common.{◌∙◌}
use Rattle.shown_entry.proofs.Users.{present_from}
use Rattle.shown_entry.proofs.shown.present_shown.Goals as goal

pub returns : goal.returns
returns c = λ attrs h.
    (λ i. record { id = c.args.id; dn = c.args.dn; attrs = c.in_ok-attrs.ensures i }) ∙ present_from c.args.id c.args.dn c.args.glue c.args.lost c.args.users.now attrs h
