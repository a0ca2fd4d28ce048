use Rattle.std.proofs.Common.{◌≡◌, take}
use Rattle.std.specs.List.{flat_map}
use Rattle.repl_wire.specs.UpdateForm.{modification}
use Rattle.repl_wire.proofs.write.modification_elements.Given as goal

abbrev pub invariant-loop-m : goal.invariant-loop-m
invariant-loop-m l = l.out ≡ flat_map (modification) (take l.m-index l.mods)
