use Rattle.std.proofs.Common.{All, ap, sym, subst, ◌∙◌, length}
use Rattle.lock_cases.specs.Ready.{IsReady}
use Rattle.lock_cases.proofs.Slices.{written}
use Rattle.lock_cases.proofs.work.worked.Goals as goal

pub joined-requires : goal.joined-requires
joined-requires g c =
    let items = ap length c.as_mut_slice.ensures.value in
    subst (All (IsReady c.args.lock.now)) (sym (written _ _ _ (c.take_all.ensures.count ∙ items) (sym c.as_mut_slice.ensures.len ∙ items))) c.take_all.ensures.ready
