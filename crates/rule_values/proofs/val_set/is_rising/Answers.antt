use Rattle.std.proofs.Common.{rules, is_lt}
use Rattle.std.proofs.lemmas.Fn.{always_returns_same}
use Rattle.rule_values.specs.Heads.{val_cmp}
use Rattle.rule_values.proofs.Sorting.{when_rising}
use Rattle.rule_values.proofs.val_set.is_rising.Goals as goal

pub returns : goal.returns
returns c = when_rising c.args.vals.now c.is_sorted_by.result (c.is_sorted_by.ensures.cases (λ a b. is_lt (val_cmp a b)) (always_returns_same _ _ _ (λ a r f k. search rules)))
