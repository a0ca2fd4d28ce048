use Rattle.std.proofs.Common.{refl, ◌≡◌, ℕ, ◌<◌, List, [], ◌++◌, Result, Ok, Err, IfOk, OnErr, length, take, drop, arith, ap}
use Rattle.io_edge.specs.Memory.{SourceState, read_len, after_read, after_failed_read}
use Rattle.io_edge.proofs.ReadLemmas.{HandsOver, reads_front}
use Rattle.io_edge.proofs.memory.source.MemSourceSource.TheImpl.Goals as goal

hands_over : {E : Type 0} (r : Result ℕ E) (old new : SourceState) (buf filled : List ℕ) → IfOk r (λ n. n ≡ read_len old (length buf))
    → IfOk r (λ n. n ≡ 0 → 0 < length buf → old.left ≡ [])
    → IfOk r (λ n. filled ≡ take n old.left ++ drop n buf) → IfOk r (λ n. new ≡ after_read old n) → OnErr r (new ≡ after_failed_read old)
    → IfOk r (λ n. HandsOver n old.left buf filled new.left) × OnErr r (new.left ≡ old.left)
hands_over (Err e) old new buf filled count end read ok err = (tt, ap (λ s. s.left) err)
hands_over (Ok n) old new buf filled count end read ok err = (
  record {
    within = omega arith;
    fits = omega arith;
    end = end;
    filled_is = read;
    rest_is = ap (λ s. s.left) ok;
  },
  tt,
)

pub read-tells : goal.read-tells
read-tells g c =
    let e = c.ensures in
    let h = hands_over c.result c.args.self.now c.new.self.now c.args.buf.now c.new.buf.now e.count e.end e.read e.ok e.err in
    let front = reads_front c.result _ _ _ _ h.0 h.1 in
    record { bound = front.0; bytes = front.1; cause = e.cause; apart = refl }
