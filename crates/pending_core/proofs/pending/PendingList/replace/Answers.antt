use Rattle.std.proofs.Common.{sym, subst, arith}
use Rattle.pending_core.specs.Pending.{IsAbove}
use Rattle.pending_core.proofs.Rising.{IsRising-push, above_without}
use Rattle.pending_core.proofs.pending.PendingList.replace.Goals as goal

pub invariant_of-self : goal.invariant_of-self
invariant_of-self c =
    let items = rw c.unwrap.ensures at c.push.ensures.items in
    let above = subst (λ xs. IsAbove xs c.args.new) (sym c.take_out.ensures.value) (above_without _ c.args.old c.args.new (subst (λ xs. IsAbove xs c.args.new) (sym c.self.view_is) c.requires.above)) in
    let n = c.take_out.ensures.len in
    let m = c.push.ensures.upper_bound in
    let k = c.push.ensures.capacity in
    let j = c.take_out.ensures.capacity in
    let i = c.self.invariant.1 in
    let r = c.self.invariant.2 in
    (rw items (IsRising-push _ c.args.new c.take_out.ensures.rising above), omega arith, omega arith)
