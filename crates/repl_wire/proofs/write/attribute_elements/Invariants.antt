use Rattle.std.proofs.Common.{◌≡◌, take}
use Rattle.std.specs.List.{flat_map}
use Rattle.repl_data.specs.declared.change.Attr.{Attr}
use Rattle.repl_wire.specs.UpdateForm.{attribute}
use Rattle.repl_wire.proofs.write.attribute_elements.Given as goal

abbrev pub invariant-loop-attr : goal.invariant-loop-attr
invariant-loop-attr l = l.out ≡ flat_map (λ (a : Attr). attribute a.attr a.vals) (take l.attr-index l.attrs)
