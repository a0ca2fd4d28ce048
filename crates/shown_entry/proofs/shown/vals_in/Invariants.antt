use Rattle.std.proofs.Common.{◌≡◌, take}
use Rattle.shown_entry.specs.Users.{vals_in}
use Rattle.shown_entry.proofs.shown.vals_in.Given as goal

abbrev pub invariant-loop-shown : goal.invariant-loop-shown
invariant-loop-shown l = l.vals ≡ vals_in l.name (take l.shown-index l.users)
