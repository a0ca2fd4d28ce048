use Rattle.std.proofs.Common.{◌≡◌, map, take}
use Rattle.repl_data.specs.declared.change.Shown.{Shown}
use Rattle.repl_data.specs.View.{user}
use Rattle.urp_tree.specs.Moves.{kept}
use Rattle.view_snap.proofs.seen.user_copies.Given as goal

abbrev pub invariant-loop-shown : goal.invariant-loop-shown
invariant-loop-shown l = l.copies ≡ map (λ (s : Shown). user (kept s)) (take l.shown-index l.users)
