use Rattle.std.proofs.Common.{◌≡◌, take}
use Rattle.std.specs.List.{flat_map}
use Rattle.row_bytes.specs.Form.{attr_bytes}
use Rattle.row_bytes.proofs.write.attr_elements.Given as goal

abbrev pub invariant-loop-attr : goal.invariant-loop-attr
invariant-loop-attr l = l.out ≡ flat_map attr_bytes (take l.attr-index l.attr-items)
