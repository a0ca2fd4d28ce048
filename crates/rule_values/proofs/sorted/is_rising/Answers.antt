use Rattle.std.proofs.Common.{rules, is_lt}
use Rattle.std.proofs.lemmas.Fn.{always_returns_same}
use Rattle.rule_values.specs.Heads.{val_cmp}
use Rattle.rule_values.proofs.sorted.is_rising.Goals as goal

pub returns : goal.returns
returns c = c.is_sorted_by.ensures.cases (λ a b. is_lt (val_cmp a b)) (always_returns_same _ _ _ (λ a r f k. search rules))
