use Rattle.std.proofs.Common.{◌≡◌, map, take}
use Rattle.repl_data.specs.declared.change.Ava.{Ava}
use Rattle.repl_data.specs.Stamps.{Deletes}
use Rattle.stamp_entry.specs.Ordered.{AreOrdered}
use Rattle.stamp_entry.specs.Raised.{raised_by}
use Rattle.stamp_entry.proofs.raise.delete_parts.Given as goal

abbrev pub invariant-loop-a : goal.invariant-loop-a
invariant-loop-a l = (l.attrs ≡ raised_by l.initial.attrs (map (λ (a : Ava). Deletes l.stamp a.attr a.val) (take l.a-index l.parts))) × AreOrdered l.attrs
