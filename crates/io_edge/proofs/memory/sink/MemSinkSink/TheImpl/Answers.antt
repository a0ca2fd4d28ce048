use Rattle.std.proofs.Common.{◌≡◌, ℕ, inl, inr, List, [], ◌++◌, Some, Result, Ok, Err, OnOk, OnErr, take, drop, ap, sym, refl, take-append-drop}
use Rattle.io_edge.specs.Edge.{AppendsFront}
use Rattle.io_edge.specs.Memory.{SinkState, KeepsFront, after_write}
use Rattle.io_edge.proofs.memory.sink.MemSinkSink.TheImpl.Goals as goal

appends : {T E : Type 0} (r : Result T E) (old new : SinkState) (piece : List ℕ) → OnOk r (new ≡ after_write old piece)
    → OnErr r (KeepsFront old new piece)
    → OnOk r (new.written ≡ old.written ++ piece) × OnErr r (AppendsFront (Some old.written) (Some new.written) piece)
appends (Ok x) old new piece ok err = (ap (λ s. s.written) ok, tt)
appends (Err e) old new piece ok (inl none) = (tt, ([], piece, refl, ap (λ s. s.written) none))
appends (Err e) old new piece ok (inr kept) =
    (tt, (take old.kept piece, drop old.kept piece, sym (take-append-drop old.kept piece), ap (λ s. s.written) kept.1))

pub write-tells : goal.write-tells
write-tells g c =
    let h = appends c.result c.args.self.now c.new.self.now c.args.bytes.now c.ensures.ok c.ensures.err in
    record { ok = h.0; err = h.1; cause = c.ensures.cause; apart = refl }
