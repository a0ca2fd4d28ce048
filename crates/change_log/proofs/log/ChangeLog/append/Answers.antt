use Rattle.std.proofs.Common.{◌≡◌, ◌<◌, ◌≤◌, ap, ◌∙◌, arith, subst, Contains, length, get_or, true, false, ℕ}
use Rattle.std.specs.List.{insert}
use Rattle.change_log.specs.Log.{Log, csns_of}
use Rattle.change_log.specs.Index.{place_lt, no_place}
use Rattle.change_log.proofs.Indexed.{IsIndex-more}
use Rattle.change_log.proofs.log.ChangeLog.append.Goals as goal

pub invariant_of-self : goal.invariant_of-self
invariant_of-self c =
    let p = c.place_of-slot.ensures in
    let inv = c.self.invariant in
    let put = rw c.unwrap.ensures at c.insert.ensures.items in
    let pushed = rw c.unwrap-2.ensures at c.push.ensures.items in
    let fresh = λ (h : Contains (csns_of c.self.inside.changes.items) c.args.change.csn). c.requires.fresh (subst (λ (l : Log). Contains (csns_of l.changes) c.args.change.csn) c.self.view_is h) in
    let e = c.as_slice-2.ensures.value in
    let w = subst (λ xs. c.place_of-slot.result ≤ length xs) e p.within in
    let b = subst (λ xs. (k : ℕ) → k < c.place_of-slot.result → place_lt (get_or xs k no_place).csn c.args.change.csn ≡ true) e p.below in
    let a = subst (λ xs. (k : ℕ) → c.place_of-slot.result ≤ k → k < length xs → place_lt (get_or xs k no_place).csn c.args.change.csn ≡ false) e p.above in
    let more = IsIndex-more c.self.inside.index.items c.self.inside.changes.items c.args.change c.place_of-slot.result inv.0 w b a fresh in
    let put' = put ∙ ap (λ n. insert c.self.inside.index.items c.place_of-slot.result (record { csn = c.args.change.csn; at = n })) (ap length c.as_slice.ensures.value) in
    let f = c.requires.spare in
    let g = ap (λ (l : Log). l.spare) c.self.view_is in
    let v = inv.1 in
    let x = inv.2 in
    let h1 = c.push.ensures.upper_bound in
    let h2 = c.push.ensures.capacity in
    let h3 = c.insert.ensures.capacity in
    let h4 = rw c.unwrap.ensures at c.insert.ensures.len in
    (rw (put', pushed) more, omega arith, omega arith)
