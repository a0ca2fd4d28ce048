use Rattle.std.proofs.Common.{◌≡◌, ◌++◌}
use Rattle.urp_tree.specs.Listed.{ids_in}
use Rattle.urp_tree.proofs.listing.ids_below.Given as goal

abbrev pub invariant-loop-who : goal.invariant-loop-who
invariant-loop-who l = l.ids ++ ids_in l.who-iterator ≡ ids_in l.names.entries
