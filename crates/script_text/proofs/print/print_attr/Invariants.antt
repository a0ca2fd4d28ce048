use Rattle.std.proofs.Common.{◌≡◌, ◌++◌, take}
use Rattle.std.specs.List.{flat_map}
use Rattle.script_text.specs.Print.{value_line}
use Rattle.script_text.proofs.print.print_attr.Given as goal

abbrev pub invariant-loop-value : goal.invariant-loop-value
invariant-loop-value l = l.out ≡ l.fn.out ++ flat_map (value_line l.shown.attr.name) (take l.value-index l.shown.vals)
