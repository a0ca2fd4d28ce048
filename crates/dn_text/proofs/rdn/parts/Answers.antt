use Rattle.std.proofs.Common.{length, sym, add_assoc, arith}
use Rattle.std.proofs.lemmas.Result.{err_from_is_err_and}
use Rattle.dn_text.proofs.Parts.{parts_fails_at, parts_go_at, parts_end_at}
use Rattle.dn_text.proofs.rdn.parts.Goals as goal

pub returns-in_err-ava : goal.returns-in_err-ava
returns-in_err-ava c =
    let p = err_from_is_err_and c.from_residual.result c.from_residual.ensures.1 in
    rw (p.1, p.2) (parts_fails_at c.loop-piece.avas _ c.in_err-ava.field-0.0 _ _ _ _ c.as_slice.ensures (c.in-Some.ensures.parts c.loop-piece.at) c.loop-piece.invariant.so_far c.in_err-ava.ensures)

pub loop-piece-preserved : goal.loop-piece-preserved
loop-piece-preserved c = record {
  fits = omega (arith, c.in-Some.ensures.lengths);
  so_far =
      rw (sym (add_assoc c.loop-piece.at (length c.in-Some.piece.now) 1))
      (parts_go_at c.loop-piece.avas _ c.put_part.new.avas c.in_ok-ava.ava _ _ _ _ c.as_slice.ensures (c.in-Some.ensures.parts c.loop-piece.at) c.loop-piece.invariant.so_far c.in_ok-ava.ensures c.in_ok-put_part.ensures);
}

pub returns-in_err-last : goal.returns-in_err-last
returns-in_err-last c =
    let p = err_from_is_err_and c.from_residual-in_err-last.result c.from_residual-in_err-last.ensures.1 in
    rw (p.1, p.2) (parts_fails_at c.loop-piece.avas _ c.in_err-last.field-0.0 _ _ _ _ c.as_slice-2.ensures (c.in_default.ensures.whole c.loop-piece.at) c.loop-piece.invariant.so_far c.in_err-last.ensures)

pub returns : goal.returns
returns c =
    parts_end_at c.loop-piece.avas _ c.put_part-2.new.avas c.in_ok-last.last _ _ _ c.as_slice-2.ensures (c.in_default.ensures.whole c.loop-piece.at) c.loop-piece.invariant.so_far c.in_ok-last.ensures c.in_ok-put_part-2.ensures
