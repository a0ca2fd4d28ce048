use Rattle.std.proofs.Common.{rules, is_lt}
use Rattle.std.proofs.lemmas.List.Sorted.{ranks_by}
use Rattle.std.proofs.lemmas.Fn.{always_returns_same}
use Rattle.repl_data.proofs.Orders.{bytes_total}
use Rattle.rule_values.specs.Having.{val_key}
use Rattle.rule_values.specs.Heads.{val_cmp}
use Rattle.rule_values.proofs.sorted.sort.Goals as goal

pub returns-clause-sorted : goal.returns-clause-sorted
returns-clause-sorted c =
    c.in_ok-sort_by.ensures.sorted (λ a b. is_lt (val_cmp a b)) (ranks_by bytes_total val_key) (always_returns_same _ _ _ (λ a r f k. search rules))
