use Rattle.std.proofs.Common.{is_some, find, ◌∙◌}
use Rattle.repl_data.specs.declared.change.Val.{Val}
use Rattle.repl_data.specs.Order.{bytes_eq}
use Rattle.rule_values.proofs.SetLemmas.{listed_as}
use Rattle.rule_values.proofs.val_set.is_listed.Goals as goal

pub returns : goal.returns
returns c =
    c.is_found.ensures
    ∙ (λ i. is_some (find (λ (v : Val). bytes_eq (c.as_slice-2.ensures i) v.key) (c.as_slice.ensures i)))
    ∙ listed_as c.args.key.now c.args.vals.now
