use Rattle.std.proofs.Common.{drop}
use Rattle.repl_wire.specs.Keys.{val_of, each_from, vals_of}
use Rattle.repl_wire.proofs.Each.{Read}
use Rattle.repl_wire.proofs.keyed.vals_of.Given as goal

abbrev pub invariant-loop-one : goal.invariant-loop-one
invariant-loop-one l = Read l.all (each_from (λ i s. val_of l.at l.attr s) l.one-index (drop l.one-index l.items)) (vals_of l.at l.attr l.spelled)
