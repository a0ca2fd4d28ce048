use Rattle.std.proofs.Common.{◌≡◌, map, take}
use Rattle.repl_data.specs.declared.change.AttrKey.{AttrKey}
use Rattle.repl_data.specs.Stamps.{Clears}
use Rattle.stamp_entry.specs.Raised.{raised_val}
use Rattle.stamp_entry.proofs.raise.clear_vals.Given as goal

abbrev pub invariant-loop-val : goal.invariant-loop-val
invariant-loop-val l = (t : AttrKey) → l.cleared ≡ map (raised_val (Clears l.stamp t)) (take l.val-index l.vals)
