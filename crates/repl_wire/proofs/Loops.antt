-- The CSNs of a vector one after the other, as a loop reads them.
use Rattle.std.proofs.Common.{◌≡◌, ℕ, zero, suc, ◌-◌, ◌+◌, ◌≤◌, ◌<◌, false, eqb, List, [], ◌∷◌, ◌++◌, Result, Ok, Err, refl, sym, ap, ◌∙◌, append_assoc, arith, get_or, length}
use Rattle.std.proofs.lemmas.List.{append-nil}
use Rattle.ber_core.specs.declared.fault.ReadFault.{ReadFault}
use Rattle.ber_core.specs.declared.fault.ReadFault.TheVariants as fault
use Rattle.ber_core.specs.Cursor.{Fails}
use Rattle.ber_core.specs.Window.{Stop, Fault, More, Window, ◌>>=◌, element}
use Rattle.ber_core.proofs.Loops.{with_front, not_zero}
use Rattle.repl_data.specs.declared.csn.Csn.{Csn}
use Rattle.repl_data.specs.Order.{zero_csn}
use Rattle.vector_core.specs.Vector.{IsVector, IsRaised}
use Rattle.repl_wire.specs.Value.{csn_inside, csns_from}
use Rattle.repl_wire.proofs.Vectors.{raised_at_end}

-- what was read so far: a vector of replicas up to the last one, in front of what is still to be read
pub record IsSoFar (vector : List Csn) (last : ℕ) (read total : Result (List Csn) Stop) : Type 0 where
  pub is_vector : IsVector vector
  pub low : (k : ℕ) → k < length vector → (get_or vector k zero_csn).rid ≤ last
  pub whole : with_front vector read ≡ total

pub at_start : (read : Result (List Csn) Stop) → IsVector [] → IsSoFar [] 0 read read
at_start read v = record { is_vector = v; low = λ k lt. absurd (omega arith); whole = same read }
  where
    same : (r : Result (List Csn) Stop) → with_front [] r ≡ r
    same (Ok xs) = refl
    same (Err e) = refl

regroup : (front : List Csn) (x : Csn) (read : Result (List Csn) Stop) → with_front front (read >>= λ xs. Ok (x ∷ xs)) ≡ with_front (front ++ x ∷ []) read
regroup front x (Ok xs) = ap (λ (ys : List _). Ok ys) (simp append_assoc)
regroup front x (Err e) = refl

one_low : (v : List Csn) (c : Csn) (last : ℕ) → last < c.rid → ((k : ℕ) → k < length v → (get_or v k zero_csn).rid ≤ last) → (k : ℕ) → k < length (v ++ c ∷ []) → (get_or (v ++ c ∷ []) k zero_csn).rid ≤ c.rid
one_low [] c last lt low zero h = omega arith
one_low [] c last lt low (suc k) h = absurd (omega arith)
one_low (x ∷ v) c last lt low zero h = let a = low 0 (omega arith) in omega arith
one_low (x ∷ v) c last lt low (suc k) h = one_low v c last lt (λ i p. low (suc i) (omega arith)) k (omega arith)

pub csn_goes_on : (vector next : List Csn) (last left i : ℕ) (w after : Window) (c : Csn) (total : Result (List Csn) Stop) → i < left → (w.left ≡ 0 → ⊥) → element 0x04 (csn_inside last) w ≡ Ok (c, after)
    → last < c.rid → IsVector next → IsRaised vector next c → IsSoFar vector last (csns_from last (left - i) w) total → IsSoFar next c.rid (csns_from c.rid (left - (i + 1)) after) total
unfolding csns_from
csn_goes_on vector next last left i w after c total lt never h above is r s =
    let k : left - i ≡ suc (left - (i + 1)) = omega arith in
    let some : eqb w.left 0 ≡ false = not_zero w.left never in
    let more = csns_from c.rid (left - (i + 1)) after in
    let one : with_front vector (csns_from last (left - i) w) ≡ with_front (vector ++ c ∷ []) more = rw (k, some, h) (regroup vector c more) in
    let end = raised_at_end vector next c s.is_vector is r (λ j p. let low = s.low j p in omega arith) (omega arith) in
    record {
      is_vector = is;
      low = rw end (one_low vector c last above s.low);
      whole = ap (λ v. with_front v more) end ∙ sym one ∙ s.whole;
    }

pub csn_fails : (e : ReadFault) (vector : List Csn) (last left i : ℕ) (w : Window) (total : Result (List Csn) Stop) → i < left → (w.left ≡ 0 → ⊥) → Fails e (element 0x04 (csn_inside last) w)
    → IsSoFar vector last (csns_from last (left - i) w) total → Fails e total
unfolding csns_from
csn_fails fault.NoMemory vector last left i w total lt never h s = tt
csn_fails fault.More vector last left i w total lt never h s =
    let k : left - i ≡ suc (left - (i + 1)) = omega arith in
    let some : eqb w.left 0 ≡ false = not_zero w.left never in
    let one : with_front vector (csns_from last (left - i) w) ≡ Err More = rw (k, some, h) refl in
    sym s.whole ∙ one
csn_fails (fault.NotLdap place why) vector last left i w total lt never h s =
    let k : left - i ≡ suc (left - (i + 1)) = omega arith in
    let some : eqb w.left 0 ≡ false = not_zero w.left never in
    let one : with_front vector (csns_from last (left - i) w) ≡ Err (Fault place why) = rw (k, some, h) refl in
    sym s.whole ∙ one

nothing : (front : List Csn) (last n : ℕ) (w : Window) → w.left ≡ 0 → with_front front (csns_from last n w) ≡ Ok front
unfolding csns_from
nothing front last zero w none = ap (λ (ys : List _). Ok ys) (append-nil front)
nothing front last (suc n) w none = rw none (ap (λ (ys : List _). Ok ys) (append-nil front))

pub csns_at_end : (vector : List Csn) (last n : ℕ) (w : Window) (total : Result (List Csn) Stop) → w.left ≡ 0 → IsSoFar vector last (csns_from last n w) total → total ≡ Ok vector
csns_at_end vector last n w total none s = sym s.whole ∙ nothing vector last n w none

pub csns_done : (vector : List Csn) (last left i : ℕ) (w : Window) (total : Result (List Csn) Stop) → left ≤ i → IsSoFar vector last (csns_from last (left - i) w) total → total ≡ Ok vector
unfolding csns_from
csns_done vector last left i w total le s =
    let k : left - i ≡ 0 = omega arith in
    let one : with_front vector (csns_from last (left - i) w) ≡ Ok vector = rw k (ap (λ (ys : List _). Ok ys) (append-nil vector)) in
    sym s.whole ∙ one
