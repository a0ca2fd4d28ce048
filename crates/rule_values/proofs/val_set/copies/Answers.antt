use Rattle.std.proofs.Common.{subst, sym, ◌∙◌}
use Rattle.repl_data.specs.Ordered.{Rises}
use Rattle.rule_values.specs.Having.{val_key}
use Rattle.rule_values.proofs.SetLemmas.{puts_rising}
use Rattle.rule_values.proofs.val_set.copies.Goals as goal

pub returns-then-is_rising : goal.returns-then-is_rising
returns-then-is_rising c =
    c.of.ensures ∙ c.in_ok-copy.ensures ∙ sym (puts_rising c.args.vals.now (subst (Rises val_key) c.as_slice.ensures (c.is_rising.ensures c.if-is_rising.true)))
