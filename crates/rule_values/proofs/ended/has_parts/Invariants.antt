use Rattle.std.proofs.Common.{◌≡◌, drop}
use Rattle.std.specs.List.{list_all}
use Rattle.rule_values.specs.Having.{held}
use Rattle.rule_values.specs.Modify.{has_part}
use Rattle.rule_values.proofs.ended.has_parts.Given as goal

abbrev pub invariant-loop-ava : goal.invariant-loop-ava
invariant-loop-ava l = list_all (has_part (held l.own l.touched)) (drop l.ava-index l.avas) ≡ list_all (has_part (held l.own l.touched)) l.avas
