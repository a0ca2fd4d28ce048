-- Elements one after the other, as a loop reads them.
use Rattle.std.proofs.Common.{◌≡◌, ℕ, zero, suc, ◌-◌, ◌+◌, ◌≤◌, ◌<◌, false, eqb, List, [], ◌∷◌, ◌++◌, length, Result, Ok, Err, refl, sym, ap, ◌∙◌, append_assoc, arith}
use Rattle.std.proofs.lemmas.List.{append-nil}
use Rattle.ber_core.proofs.Loops.{not_zero}
use Rattle.row_bytes.specs.declared.fault.RowFault.{RowFault}
use Rattle.row_bytes.specs.declared.fault.RowFault.TheVariants as fault
use Rattle.row_bytes.specs.Given.{Fails}
use Rattle.row_bytes.specs.Place.{Fault, At, Place, Reading, ◌>>=◌, many_from}

-- what was read before, and what is still read
abbrev pub with_front : {A : Type 0} → List A → Result (List A) Fault → Result (List A) Fault
with_front front read = read >>= λ xs. Ok (front ++ xs)

regroup : {A : Type 0} (front : List A) (x : A) (read : Result (List A) Fault) → with_front front (read >>= λ xs. Ok (x ∷ xs)) ≡ with_front (front ++ x ∷ []) read
regroup front x (Ok xs) = ap (λ (ys : List _). Ok ys) (simp append_assoc)
regroup front x (Err e) = refl

pub goes_on : {A : Type 0} (piece : Place → Reading A) (front : List A) (total : Result (List A) Fault) (left i : ℕ) (p after : Place) (x : A) → i < left → (length p.bytes ≡ 0 → ⊥) → piece p ≡ Ok (x, after)
    → with_front front (many_from piece (left - i) p) ≡ total → with_front (front ++ x ∷ []) (many_from piece (left - (i + 1)) after) ≡ total
unfolding many_from
goes_on piece front total left i p after x lt never h so_far =
    let k : left - i ≡ suc (left - (i + 1)) = omega arith in
    let some : eqb (length p.bytes) 0 ≡ false = not_zero (length p.bytes) never in
    let one : with_front front (many_from piece (left - i) p) ≡ with_front (front ++ x ∷ []) (many_from piece (left - (i + 1)) after) = rw (k, some, h) (regroup front x (many_from piece (left - (i + 1)) after)) in
    sym one ∙ so_far

pub fails : {A : Type 0} (e : RowFault) (piece : Place → Reading A) (front : List A) (total : Result (List A) Fault) (left i : ℕ) (p : Place) → i < left → (length p.bytes ≡ 0 → ⊥) → Fails e (piece p)
    → with_front front (many_from piece (left - i) p) ≡ total → Fails e total
unfolding many_from
fails fault.NoMemory piece front total left i p lt never h so_far = tt
fails (fault.Bad place why) piece front total left i p lt never h so_far =
    let k : left - i ≡ suc (left - (i + 1)) = omega arith in
    let some : eqb (length p.bytes) 0 ≡ false = not_zero (length p.bytes) never in
    let one : with_front front (many_from piece (left - i) p) ≡ Err (At place why) = rw (k, some, h) refl in
    sym so_far ∙ one

nothing : {A : Type 0} (piece : Place → Reading A) (front : List A) (n : ℕ) (p : Place) → length p.bytes ≡ 0 → with_front front (many_from piece n p) ≡ Ok front
unfolding many_from
nothing piece front zero p none = ap (λ (ys : List _). Ok ys) (append-nil front)
nothing piece front (suc n) p none = rw none (ap (λ (ys : List _). Ok ys) (append-nil front))

pub at_end : {A : Type 0} (piece : Place → Reading A) (front : List A) (total : Result (List A) Fault) (left i : ℕ) (p : Place) → length p.bytes ≡ 0
    → with_front front (many_from piece (left - i) p) ≡ total → total ≡ Ok front
at_end piece front total left i p none so_far = sym so_far ∙ nothing piece front (left - i) p none

pub is_done : {A : Type 0} (piece : Place → Reading A) (front : List A) (total : Result (List A) Fault) (left i : ℕ) (p : Place) → left ≤ i
    → with_front front (many_from piece (left - i) p) ≡ total → total ≡ Ok front
unfolding many_from
is_done piece front total left i p le so_far =
    let k : left - i ≡ 0 = omega arith in
    let one : with_front front (many_from piece (left - i) p) ≡ Ok front = rw k (ap (λ (ys : List _). Ok ys) (append-nil front)) in
    sym so_far ∙ one
