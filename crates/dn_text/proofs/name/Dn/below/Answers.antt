use Rattle.std.proofs.Common.{arith}
use Rattle.dn_text.proofs.Keys.{above-found, above-none}
use Rattle.dn_text.proofs.name.Dn.below.Goals as goal

pub returns-then-are_same_rdns-clause-found : goal.returns-then-are_same_rdns-clause-found
returns-then-are_same_rdns-clause-found c =
    above-found c.args.self.now c.args.suffix.now _ _ c.as_slice-rdns.ensures c.as_slice-above.ensures (omega arith) c.if-are_same_rdns.ensures

pub returns-else-are_same_rdns-clause-none : goal.returns-else-are_same_rdns-clause-none
returns-else-are_same_rdns-clause-none c = λ _.
    above-none c.args.self.now c.args.suffix.now _ _ c.as_slice-rdns.ensures c.as_slice-above.ensures (omega arith) c.if-are_same_rdns.ensures
