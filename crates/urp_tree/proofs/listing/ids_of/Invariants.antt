use Rattle.std.proofs.Common.{◌≡◌, ◌++◌, map}
use Rattle.repl_data.specs.declared.csn.Uid.{Uid}
use Rattle.repl_data.specs.declared.change.Rdn.{Rdn}
use Rattle.urp_tree.proofs.listing.ids_of.Given as goal

abbrev pub invariant-loop-kid : goal.invariant-loop-kid
invariant-loop-kid l = l.ids ++ map (λ (k : Rdn × Uid). k.1) l.kid-iterator ≡ map (λ (k : Rdn × Uid). k.1) l.kids.keys
