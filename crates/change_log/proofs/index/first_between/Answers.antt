use Rattle.std.proofs.Common.{◌≡◌, ◌+◌, ◌<◌, sym, ap, subst, refl, length, get_or, arith}
use Rattle.repl_data.specs.declared.csn.Csn.{Csn}
use Rattle.repl_data.specs.Order.{zero_csn}
use Rattle.vector_core.proofs.Entries.{entry_here}
use Rattle.change_log.specs.Log.{is_between}
use Rattle.change_log.specs.Index.{IsBestOf, IsLeastOf, is_in_reach}
use Rattle.change_log.proofs.Reach.{best_none, best_more, best_all}
use Rattle.change_log.proofs.index.first_between.Goals as goal

pub loop-last-init : goal.loop-last-init
loop-last-init c = best_none c.args.index.now (is_between c.args.beyond.now c.args.limit.now) c.args.limit.now

pub loop-last-preserved : goal.loop-last-preserved
loop-last-preserved c =
    let last : Csn = get_or c.entries-entries.result.now c.loop-last.last-index zero_csn in
    let value = c.entries-entries.ensures.value in
    let here = ap (λ v. get_or v c.loop-last.last-index zero_csn) value in
    let l = subst (λ v. c.loop-last.last-index < length v) value c.loop-last-test.true in
    let e = entry_here c.args.limit.now last.rid last c.entries-entries.ensures.vector (c.loop-last.last-index, l, sym here) refl in
    let new = subst (λ b. IsLeastOf c.args.index.now (is_in_reach b last) c.next_of.result) c.get.ensures.entry c.next_of.ensures in
    let more = best_more c.args.index.now c.args.beyond.now c.args.limit.now c.loop-last.last-index last c.loop-last.best c.next_of.result here e c.loop-last.invariant new in
    subst (λ z. IsBestOf c.args.index.now (is_between c.args.beyond.now c.args.limit.now) c.args.limit.now (c.loop-last.last-index + 1) z) (sym c.lower_of-best.ensures) more

pub returns : goal.returns
returns c =
    let n = ap length c.entries-entries.ensures.value in
    let a = c.loop-last.auto.last-index-end in
    let b = c.loop-last-test.false in
    let e : c.loop-last.last-index ≡ length c.args.limit.now = omega arith in
    best_all c.args.index.now c.args.beyond.now c.args.limit.now c.loop-last.best
    (subst (λ n. IsBestOf c.args.index.now (is_between c.args.beyond.now c.args.limit.now) c.args.limit.now n c.loop-last.best) e c.loop-last.invariant)
