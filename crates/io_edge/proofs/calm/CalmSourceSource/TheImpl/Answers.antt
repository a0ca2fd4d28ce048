use Rattle.std.proofs.Common.{refl, ◌≡◌, ℕ, min, List, ◌++◌, Result, Ok, Err, IfOk, OnErr, length, take, drop, arith}
use Rattle.std.proofs.lemmas.List.{nil_from_length}
use Rattle.io_edge.specs.Causes.{HasCause}
use Rattle.io_edge.proofs.ReadLemmas.{HandsOver, reads_front}
use Rattle.io_edge.proofs.calm.CalmSourceSource.TheImpl.Goals as goal

hands_over : {E : Type 0} (r : Result ℕ E) (left buf filled rest : List ℕ) → r ≡ Ok (min (length left) (length buf))
    → IfOk r (λ n. filled ≡ take n left ++ drop n buf) → IfOk r (λ n. rest ≡ drop n left)
    → IfOk r (λ n. HandsOver n left buf filled rest) × OnErr r (rest ≡ left) × HasCause 0 0 r
hands_over (Err e) left buf filled rest count read after = absurd (cc)
hands_over (Ok n) left buf filled rest count read after =
    let is : n ≡ min (length left) (length buf) = cc in (
      record {
        within = omega arith;
        fits = omega arith;
        end = λ zero room. nil_from_length left (omega arith);
        filled_is = read;
        rest_is = after;
      },
      tt,
      record { later = omega arith; failed = tt },
    )

pub read-tells : goal.read-tells
read-tells g c =
    let h = hands_over c.result c.args.self.now c.args.buf.now c.new.buf.now c.new.self.now c.ensures.count c.ensures.read c.ensures.rest in
    let front = reads_front c.result _ _ _ _ h.0 h.1 in
    record { bound = front.0; bytes = front.1; cause = h.2; apart = refl }
