use Rattle.std.proofs.Common.{sym, ◌∙◌}
use Rattle.std.proofs.lemmas.List.{length-map}
use Rattle.rule_values.specs.Entries.{val_of}
use Rattle.rule_values.proofs.spelled.count.Goals as goal

pub returns : goal.returns
returns c = c.len.ensures.len ∙ sym (length-map c.args.spelled.now.entries val_of)
