use Rattle.std.proofs.Common.{◌≡◌, ◌+◌, drop}
use Rattle.repl_data.specs.Stamps.{mods_acts}
use Rattle.stamp_entry.specs.Ordered.{AreOrdered}
use Rattle.stamp_entry.specs.Raised.{raised_by}
use Rattle.stamp_entry.proofs.raise.raise_mods.Given as goal

abbrev pub invariant-loop-i : goal.invariant-loop-i
invariant-loop-i l = (raised_by l.attrs (mods_acts l.csn (l.i + 1) (drop l.i l.mods)) ≡ raised_by l.initial.attrs (mods_acts l.csn 1 l.mods)) × AreOrdered l.attrs
