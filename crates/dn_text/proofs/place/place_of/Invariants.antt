use Rattle.std.proofs.Common.{◌≡◌, ◌≤◌, length, drop}
use Rattle.dn_text.specs.Names.{place_of}
use Rattle.dn_text.proofs.place.place_of.Given as goal

abbrev pub invariant-loop-left : goal.invariant-loop-left
invariant-loop-left g l = record {
  within : l.left ≤ length l.rdns;
  so_far : l.place ≡ place_of (g.V.View.view l.view) (drop l.left l.rdns);
}

abbrev pub decreases-loop-left : goal.decreases-loop-left
decreases-loop-left g l = l.left
