use Rattle.std.proofs.Common.{sym, ap, ◌∙◌}
use Rattle.std.specs.Ordering.{is_lt}
use Rattle.vector_core.proofs.Lists.{none_is}
use Rattle.repl_data.proofs.CsnTests.{ge_is, ge_is_not}
use Rattle.vector_core.proofs.Entries.{set_step, same_step, insert_step}
use Rattle.vector_core.proofs.vector.raise_in.Goals as goal

pub returns-in_default-clause-ok : goal.returns-in_default-clause-ok
returns-in_default-clause-ok c =
    let p = c.place_of-at.ensures in
    let d = none_is _ _ c.entry_at.result c.entry_at.ensures c.in_default.not-Some in
    let d' = rw (c.as_slice-2.ensures.value, ← c.as_slice.ensures.value) at d in
    let e = insert_step c.args.list.now.items c.as_slice.result.now c.args.csn c.place_of-at.result c.as_slice.ensures.value c.requires p.within p.below p.above d' (λ f. let h = rw f at c.eq.ensures in let n = c.if-eq.false in cc) in
    rw c.in_ok-insert.ensures.items e.1

pub returns-in_default-clause-vector : goal.returns-in_default-clause-vector
returns-in_default-clause-vector c =
    let p = c.place_of-at.ensures in
    let d = none_is _ _ c.entry_at.result c.entry_at.ensures c.in_default.not-Some in
    let d' = rw (c.as_slice-2.ensures.value, ← c.as_slice.ensures.value) at d in
    let e = insert_step c.args.list.now.items c.as_slice.result.now c.args.csn c.place_of-at.result c.as_slice.ensures.value c.requires p.within p.below p.above d' (λ f. let h = rw f at c.eq.ensures in let n = c.if-eq.false in cc) in
    rw c.in_ok-insert.ensures.items e.0

pub returns-then-is_ge-clause-ok : goal.returns-then-is_ge-clause-ok
returns-then-is_ge-clause-ok c =
    let h = c.in-Some.ensures in
    same_step c.args.list.now.items c.as_slice-2.result.now c.args.csn c.in-Some.entry c.place_of-at.result c.as_slice-2.ensures.value c.requires h.0 h.1 h.2
    (ap is_lt (sym c.compare.ensures) ∙ ge_is c.compare.result (sym c.is_ge.ensures ∙ c.if-is_ge.true))

pub returns-clause-ok : goal.returns-clause-ok
returns-clause-ok c =
    let h = c.in-Some.ensures in
    (set_step c.args.list.now.items c.as_slice-2.result.now c.args.csn c.in-Some.entry c.place_of-at.result c.as_slice-2.ensures.value c.requires h.0 h.1 h.2
    (ap is_lt (sym c.compare.ensures) ∙ ge_is_not c.compare.result (sym c.is_ge.ensures ∙ c.if-is_ge.false))).1

pub returns-clause-vector : goal.returns-clause-vector
returns-clause-vector c =
    let h = c.in-Some.ensures in
    (set_step c.args.list.now.items c.as_slice-2.result.now c.args.csn c.in-Some.entry c.place_of-at.result c.as_slice-2.ensures.value c.requires h.0 h.1 h.2
    (ap is_lt (sym c.compare.ensures) ∙ ge_is_not c.compare.result (sym c.is_ge.ensures ∙ c.if-is_ge.false))).0
