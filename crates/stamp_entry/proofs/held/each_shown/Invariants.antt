use Rattle.std.proofs.Common.{◌≡◌, map, take}
use Rattle.std.specs.Prelude.{filter}
use Rattle.stamp_entry.specs.Shown.{shows_among, val_of}
use Rattle.stamp_entry.proofs.held.each_shown.Given as goal

abbrev pub invariant-loop-val : goal.invariant-loop-val
invariant-loop-val g l = l.shown ≡ map (λ v. val_of (g.T.HeldVal.facts v)) (filter (shows_among g.T.HeldVal.facts l.rdn l.attr l.single l.vals) (take l.val-index l.vals))
