use Rattle.std.proofs.Common.{◌≡◌, take}
use Rattle.std.specs.List.{flat_map}
use Rattle.repl_wire.specs.UpdateForm.{dropped_part}
use Rattle.repl_wire.proofs.write.dropped_elements.Given as goal

abbrev pub invariant-loop-part : goal.invariant-loop-part
invariant-loop-part l = l.out ≡ flat_map (dropped_part) (take l.part-index l.parts)
