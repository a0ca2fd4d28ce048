use Rattle.std.proofs.Common.{◌≡◌, ◌++◌, map, take}
use Rattle.urp_names.specs.Contending.{id_of}
use Rattle.urp_tree.proofs.listing.push_ids.Given as goal

abbrev pub invariant-loop-c : goal.invariant-loop-c
invariant-loop-c l = l.ids ≡ l.initial.ids ++ map id_of (take l.c-index l.who)
