use Rattle.std.proofs.Common.{◌≡◌, ◌++◌, take}
use Rattle.std.specs.List.{flat_map}
use Rattle.script_text.specs.Print.{attr_lines, dn_line}
use Rattle.script_text.proofs.print.print_entry.Given as goal

abbrev pub invariant-loop-shown : goal.invariant-loop-shown
invariant-loop-shown l = l.out ≡ l.fn.out ++ dn_line l.entry.dn ++ flat_map attr_lines (take l.shown-index l.entry.attrs)
