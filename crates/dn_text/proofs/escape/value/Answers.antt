use Rattle.std.proofs.Common.{sym, ◌∙◌, arith}
use Rattle.std.proofs.lemmas.Result.{err_from_is_err_and}
use Rattle.dn_text.proofs.Values.{fails_from, value_stops, value_breaks, value_ends}
use Rattle.dn_text.proofs.escape.value.Goals as goal

pub returns-in_err-next : goal.returns-in_err-next
returns-in_err-next c =
    let p = err_from_is_err_and c.from_residual.result c.from_residual.ensures.1 in
    rw (p.1, p.2) (fails_from _ _ (c.loop-at.invariant ∙ value_stops c.loop-at.value c.loop-at.state c.in_err-next.field-0.0 c.args.start c.loop-at.at c.args.text.now (omega arith) (sym c.in_err-next.ensures)))

pub returns-in_err-put_byte : goal.returns-in_err-put_byte
returns-in_err-put_byte c =
    let p = err_from_is_err_and c.from_residual-in_err-put_byte.result c.from_residual-in_err-put_byte.ensures.1 in
    rw (p.1, p.2) tt

pub returns : goal.returns
returns c = c.loop-at.invariant ∙ value_ends c.loop-at.value c.loop-at.state _ c.loop-at.at c.args.text.now (omega arith) (sym c.in_ok-ended.ensures)

pub returns-in_err-ended : goal.returns-in_err-ended
returns-in_err-ended c =
    let p = err_from_is_err_and c.from_residual-in_err-ended.result c.from_residual-in_err-ended.ensures.1 in
    rw (p.1, p.2) (fails_from _ _ (c.loop-at.invariant ∙ value_breaks c.loop-at.value c.loop-at.state c.in_err-ended.field-0.0 _ c.loop-at.at c.args.text.now (omega arith) (sym c.in_err-ended.ensures)))
