use Rattle.std.proofs.Common.{◌≡◌, take}
use Rattle.std.specs.List.{flat_map}
use Rattle.row_bytes.specs.Form.{ava_bytes}
use Rattle.row_bytes.proofs.write.ava_elements.Given as goal

abbrev pub invariant-loop-ava : goal.invariant-loop-ava
invariant-loop-ava l = l.out ≡ flat_map ava_bytes (take l.ava-index l.ava-items)
