use Rattle.std.proofs.Common.{◌≡◌, take}
use Rattle.std.specs.Prelude.{flat_map}
use Rattle.repl_data.specs.declared.change.Attr.{Attr}
use Rattle.repl_data.specs.Order.{stamp}
use Rattle.repl_data.specs.Stamps.{adds}
use Rattle.stamp_entry.specs.Ordered.{AreOrdered}
use Rattle.stamp_entry.specs.Raised.{raised_by}
use Rattle.stamp_entry.proofs.raise.add_attrs.Given as goal

abbrev pub invariant-loop-a : goal.invariant-loop-a
invariant-loop-a l = (l.attrs ≡ raised_by l.initial.attrs (flat_map (λ (a : Attr). adds (stamp l.csn 0) a.attr a.vals) (take l.a-index l.given))) × AreOrdered l.attrs
