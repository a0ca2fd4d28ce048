use Rattle.std.proofs.Common.{◌≡◌, map, take}
use Rattle.repl_data.specs.Stamps.{Adds}
use Rattle.stamp_entry.specs.Ordered.{AreOrdered}
use Rattle.stamp_entry.specs.Raised.{raised_by}
use Rattle.stamp_entry.proofs.raise.add_values.Given as goal

abbrev pub invariant-loop-val : goal.invariant-loop-val
invariant-loop-val l = (l.attrs ≡ raised_by l.initial.attrs (map (Adds l.stamp l.attr) (take l.val-index l.vals))) × AreOrdered l.attrs
