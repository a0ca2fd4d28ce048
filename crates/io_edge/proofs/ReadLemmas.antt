-- What a read of the first bytes in memory does to the known bytes.
use Rattle.std.proofs.Common.{◌≡◌, ℕ, ◌<◌, ◌≤◌, List, [], ◌++◌, Some, Result, Ok, Err, IfOk, OnErr, length, take, drop, sym, ap, ◌∙◌, arith, take_at, length-append, length-drop, length-take, length-take-le, take-append-drop}
use Rattle.std.proofs.Math.Seq.{drop-nil}
use Rattle.std.specs.Io.{ReadsAtMost}
use Rattle.std.specs.Io.KnownBytes.{ReadConsumes}

-- the first n bytes came, none only at the end or with no room
pub record HandsOver (n : ℕ) (left buf filled rest : List ℕ) : Type 0 where
  pub within : n ≤ length left
  pub fits : n ≤ length buf
  pub end : n ≡ 0 → 0 < length buf → left ≡ []
  pub filled_is : filled ≡ take n left ++ drop n buf
  pub rest_is : rest ≡ drop n left

pub length-filled : (n : ℕ) (left buf filled rest : List ℕ) → HandsOver n left buf filled rest → length filled ≡ length buf
length-filled n left buf filled rest h =
    ap length h.filled_is ∙ length-append (take n left) (drop n buf) ∙ omega (arith, length-take-le n left h.within, length-drop n buf, h.fits)

-- the front of the buffer has the bytes that came
pub take-filled : (n : ℕ) (left buf filled rest : List ℕ) → HandsOver n left buf filled rest → take n filled ≡ take n left
take-filled n left buf filled rest h = ap (take n) h.filled_is ∙ take_at (take n left) (drop n buf) n (length-take-le n left h.within)

-- such a read meets the clauses of a source
pub reads_front : {E : Type 0} (r : Result ℕ E) (left buf filled rest : List ℕ)
    → IfOk r (λ n. HandsOver n left buf filled rest) → OnErr r (rest ≡ left)
    → ReadsAtMost r filled × ReadConsumes (Some left) (Some rest) r filled
reads_front (Err e) left buf filled rest h kept = (tt, kept)
reads_front (Ok n) left buf filled rest h kept =
    let same = length-filled n left buf filled rest h in
    let front = take-filled n left buf filled rest h in (
      (omega arith, omega (arith, length-take n filled)),
      (
        sym (take-append-drop n left) ∙ ap (λ l. take n left ++ l) (sym h.rest_is) ∙ ap (λ l. l ++ rest) (sym front),
        λ zero room. h.rest_is ∙ ap (drop n) (h.end zero (omega arith)) ∙ drop-nil n,
      ),
    )
