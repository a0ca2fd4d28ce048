use Rattle.std.proofs.Common.{◌≡◌, map, take}
use Rattle.repl_data.specs.View.{user}
use Rattle.stamp_entry.proofs.shown.users.Given as goal

abbrev pub invariant-loop-a : goal.invariant-loop-a
invariant-loop-a l = l.all ≡ map user (take l.a-index l.attrs)
