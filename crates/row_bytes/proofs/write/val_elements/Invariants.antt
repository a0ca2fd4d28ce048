use Rattle.std.proofs.Common.{◌≡◌, take}
use Rattle.std.specs.List.{flat_map}
use Rattle.row_bytes.specs.Form.{val_bytes}
use Rattle.row_bytes.proofs.write.val_elements.Given as goal

abbrev pub invariant-loop-val : goal.invariant-loop-val
invariant-loop-val l = l.out ≡ flat_map val_bytes (take l.val-index l.val-items)
