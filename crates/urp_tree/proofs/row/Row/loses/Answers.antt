use Rattle.std.proofs.Common.{Option, ap, ◌∙◌}
use Rattle.std.specs.List.{list_any}
use Rattle.urp_names.specs.declared.contenders.Contender.{Contender}
use Rattle.urp_names.specs.Contending.{Contending, comes_before}
use Rattle.urp_tree.specs.Index.{who_of}
use Rattle.urp_tree.proofs.row.Row.loses.Goals as goal

pub returns-in-Some : goal.returns-in-Some
returns-in-Some c = λ id. c.outranks.ensures id ∙ ap (λ (o : Option Contending). list_any (λ (d : Contender). comes_before d (record { id = id; glue = c.args.glue; named = c.args.named })) (who_of o)) c.in-Some.ensures.value
