use Rattle.std.proofs.Common.{length, sym, add_assoc, arith}
use Rattle.std.proofs.lemmas.Result.{err_from_is_err_and}
use Rattle.dn_text.proofs.Parts.{rdns_fails_at, rdns_go_at, rdns_end_at}
use Rattle.dn_text.proofs.name.rdns.Goals as goal

pub returns-in_err-one : goal.returns-in_err-one
returns-in_err-one c =
    let p = err_from_is_err_and c.from_residual.result c.from_residual.ensures.1 in
    rw (p.1, p.2) (rdns_fails_at c.loop-piece.rdns c.in_err-one.field-0.0 _ _ _ _ (c.in-Some.ensures.parts c.loop-piece.at) c.loop-piece.invariant.so_far c.in_err-one.ensures)

pub loop-piece-preserved : goal.loop-piece-preserved
loop-piece-preserved c = record {
  fits = omega (arith, c.in-Some.ensures.lengths);
  so_far =
      rw (sym (add_assoc c.loop-piece.at (length c.in-Some.piece.now) 1))
      (rdns_go_at c.loop-piece.rdns c.push.new.self c.in_ok-one.one _ _ _ _ (c.in-Some.ensures.parts c.loop-piece.at) c.loop-piece.invariant.so_far c.in_ok-one.ensures c.in_ok-push.ensures.ok);
}

pub returns-in_err-last : goal.returns-in_err-last
returns-in_err-last c =
    let p = err_from_is_err_and c.from_residual-in_err-last.result c.from_residual-in_err-last.ensures.1 in
    rw (p.1, p.2) (rdns_fails_at c.loop-piece.rdns c.in_err-last.field-0.0 _ _ _ _ (c.in_default.ensures.whole c.loop-piece.at) c.loop-piece.invariant.so_far c.in_err-last.ensures)

pub returns : goal.returns
returns c =
    rdns_end_at c.loop-piece.rdns c.push-2.new.self c.in_ok-last.last _ _ _ (c.in_default.ensures.whole c.loop-piece.at) c.loop-piece.invariant.so_far c.in_ok-last.ensures c.in_ok-push-2.ensures.ok
