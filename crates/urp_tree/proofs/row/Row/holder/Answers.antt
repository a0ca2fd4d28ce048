use Rattle.std.proofs.Common.{Option, ap, ◌∙◌}
use Rattle.urp_names.specs.Contending.{Contending, holder_of}
use Rattle.urp_tree.specs.Index.{who_of}
use Rattle.urp_tree.proofs.row.Row.holder.Goals as goal

pub returns-in-Some : goal.returns-in-Some
returns-in-Some c = c.holder.ensures ∙ ap (λ (o : Option Contending). holder_of (who_of o)) c.in-Some.ensures.value
