use Rattle.std.proofs.Common.{Option, ap, ◌∙◌}
use Rattle.urp_names.specs.Contending.{Contending, is_beaten, without}
use Rattle.urp_tree.specs.Index.{who_of}
use Rattle.urp_tree.proofs.row.Row.loses_but.Goals as goal

pub returns-in-Some : goal.returns-in-Some
returns-in-Some c =
    c.outranks_but.ensures
    ∙ ap (λ (o : Option Contending). is_beaten (without c.args.id (who_of o)) (record { id = c.args.id; glue = c.args.glue; named = c.args.named })) c.in-Some.ensures.value
