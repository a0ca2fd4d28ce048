use Rattle.std.proofs.Common.{◌≡◌, drop}
use Rattle.std.specs.List.{list_any}
use Rattle.rule_values.specs.Having.{held}
use Rattle.rule_values.specs.Modify.{has_second}
use Rattle.rule_values.proofs.ended.any_has_second.Given as goal

abbrev pub invariant-loop-m : goal.invariant-loop-m
invariant-loop-m l = list_any (has_second (held l.own l.touched)) (drop l.m-index l.mods) ≡ list_any (has_second (held l.own l.touched)) l.mods
