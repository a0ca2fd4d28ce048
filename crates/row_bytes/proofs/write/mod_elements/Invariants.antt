use Rattle.std.proofs.Common.{◌≡◌, take}
use Rattle.std.specs.List.{flat_map}
use Rattle.row_bytes.specs.Form.{mod_bytes}
use Rattle.row_bytes.proofs.write.mod_elements.Given as goal

abbrev pub invariant-loop-one : goal.invariant-loop-one
invariant-loop-one l = l.out ≡ flat_map mod_bytes (take l.one-index l.one-items)
