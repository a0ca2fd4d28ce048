use Rattle.std.proofs.Common.{◌≡◌, ◌≤◌, length, drop}
use Rattle.repl_data.specs.Presence.{present_of}
use Rattle.plain_view.proofs.presence.present_of.Given as goal

abbrev pub invariant-loop-left : goal.invariant-loop-left
invariant-loop-left l = (l.left ≤ length l.entries) × (l.present ≡ present_of (drop l.left l.entries))

abbrev pub decreases-loop-left : goal.decreases-loop-left
decreases-loop-left l = l.left
