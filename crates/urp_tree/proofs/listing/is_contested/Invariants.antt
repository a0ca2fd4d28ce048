use Rattle.std.specs.List.{AllByRecursion}
use Rattle.urp_tree.specs.Listed.{IsAlone}
use Rattle.urp_tree.proofs.listing.is_contested.Given as goal

abbrev pub invariant-loop-who : goal.invariant-loop-who
invariant-loop-who l = AllByRecursion IsAlone l.who-iterator → AllByRecursion IsAlone l.names.entries
