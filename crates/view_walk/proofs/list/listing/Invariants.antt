use Rattle.std.proofs.Common.{◌≡◌, ◌++◌, length}
use Rattle.repl_data.specs.View.{dump_of}
use Rattle.view_walk.specs.Walk.{left, ArePresent, entries_of}
use Rattle.view_walk.proofs.list.listing.Given as goal

abbrev pub invariant-loop-walk : goal.invariant-loop-walk
invariant-loop-walk g l = record {
  present : ArePresent (g.V.View.view l.view) l.walk;
  listed : l.entries ++ entries_of (g.V.View.view l.view) (left (g.V.View.view l.view) l.walk) ≡ dump_of (g.V.View.view l.view);
}

abbrev pub decreases-loop-walk : goal.decreases-loop-walk
decreases-loop-walk g l = length (left (g.V.View.view l.view) l.walk)
