-- The bytes that wait are taken from the front, some at a time.
use Rattle.std.proofs.Common.{◌≡◌, ℕ, ◌+◌, ◌-◌, ◌<◌, ◌≤◌, min, List, [], ◌++◌, length, take, drop, refl, sym, ap, ◌∙◌, append_assoc, append-nil, arith, length-append, length-drop}
use Rattle.std.specs.List.{concat}
use Rattle.std.proofs.lemmas.List.{take-append-le, drop-append-le, length-take-le, take_at, take_rest, drop_at, drop_all, drop-drop}
use Rattle.std.proofs.Math.Seq.{take-add}
use Rattle.conn_core.specs.Waiting.{waiting}

-- so many were taken of what waited, into the front of the buffer, and this is left
pub record IsTaken (all before out : List ℕ) (rest : List ℕ) (replies : List (List ℕ)) (count : ℕ) : Type 0 where
  pub within : count ≤ length all
  pub fits : count ≤ length before
  pub moved : out ≡ take count all ++ drop count before
  pub left : waiting rest replies ≡ drop count all

pub taken_none : (before rest : List ℕ) (replies : List (List ℕ)) → IsTaken (waiting rest replies) before before rest replies 0
taken_none before rest replies = record { within = omega arith; fits = omega arith; moved = refl; left = refl }

-- other replies with the same bytes
pub taken_same : (all before out rest other : List ℕ) (replies others : List (List ℕ)) (count : ℕ) → IsTaken all before out rest replies count → waiting other others ≡ waiting rest replies → IsTaken all before out other others count
taken_same all before out rest other replies others count t e = record { within = t.within; fits = t.fits; moved = t.moved; left = e ∙ t.left }

-- the first of the rest go to the front of the buffer's end
pub taken_more : (all before out rest : List ℕ) (replies : List (List ℕ)) (count n : ℕ) (next after : List ℕ) → IsTaken all before out rest replies count → n ≤ length rest → n ≤ length (drop count out)
    → next ≡ take count out ++ (take n rest ++ drop n (drop count out)) → after ≡ drop n rest → IsTaken all before next after replies (count + n)
taken_more all before out rest replies count n next after t le room is e =
    let len = length-take-le count all t.within in
    let front : take count out ≡ take count all = ap (λ (x : List ℕ). take count x) t.moved ∙ take_at (take count all) (drop count before) count len in
    let back : drop count out ≡ drop count before = ap (λ (x : List ℕ). drop count x) t.moved ∙ drop_at (take count all) (drop count before) count len in
    let left : drop n (drop count all) ≡ drop n rest ++ concat replies = ap (λ (x : List ℕ). drop n x) (sym t.left) ∙ drop-append-le n rest (concat replies) le in
    let some : take n (drop count all) ≡ take n rest = ap (λ (x : List ℕ). take n x) (sym t.left) ∙ take-append-le n rest (concat replies) le in
    let long : length (rest ++ concat replies) ≡ length all - count = ap (λ (x : List ℕ). length x) t.left ∙ length-drop count all in
    let both = length-append rest (concat replies) in
    let inside = t.within in
    let fits = t.fits in
    let wide : length (drop count out) ≡ length before - count = ap (λ (x : List ℕ). length x) back ∙ length-drop count before in
    record {
      within = omega (arith, long, both, inside, le);
      fits = omega (arith, wide, room, fits);
      moved = is ∙ ap (λ (x : List ℕ). x ++ (take n rest ++ drop n (drop count out))) front
          ∙ ap (λ (x : List ℕ). take count all ++ (take n rest ++ drop n x)) back
          ∙ ap (λ (x : List ℕ). take count all ++ (take n rest ++ x)) (drop-drop n count before)
          ∙ ap (λ (x : List ℕ). take count all ++ (x ++ drop (count + n) before)) (sym some)
          ∙ sym (append_assoc (take count all) (take n (drop count all)) (drop (count + n) before))
          ∙ ap (λ (x : List ℕ). x ++ drop (count + n) before) (sym (take-add count n all));
      left = ap (λ (x : List ℕ). x ++ concat replies) e ∙ sym left ∙ drop-drop n count all;
    }

-- nothing waits any more
pub taken_all : (all before out rest : List ℕ) (replies : List (List ℕ)) (count : ℕ) → IsTaken all before out rest replies count → waiting rest replies ≡ [] → length all ≤ count
taken_all all before out rest replies count t none =
    let h : length (drop count all) ≡ 0 = ap (λ (x : List ℕ). length x) (sym t.left ∙ none) in
    let len = length-drop count all in
    omega (arith, h, len)

pub some_left : (sent : ℕ) (reply bytes : List ℕ) → sent < length reply → drop sent reply ≡ bytes → bytes ≡ [] → ⊥
some_left sent reply bytes lt e none =
    let h : length (drop sent reply) ≡ 0 = ap (λ (x : List ℕ). length x) (e ∙ none) in
    let len = length-drop sent reply in
    absurd (omega (arith, h, len, lt))

-- a copy into the end of the buffer
pub taken_copied : (all before out rest : List ℕ) (replies : List (List ℕ)) (count n : ℕ) (copied after : List ℕ) → IsTaken all before out rest replies count → count ≤ length out
    → n ≡ min (length rest) (length (take (length out - count) (drop count out))) → copied ≡ take n rest ++ drop n (take (length out - count) (drop count out)) → after ≡ drop n rest
    → IsTaken all before (take count out ++ (copied ++ drop (length out - count) (drop count out))) after replies (count + n)
taken_copied all before out rest replies count n copied after t le many is e =
    let same : take (length out - count) (drop count out) ≡ drop count out = take_rest out count in
    let room : length (take (length out - count) (drop count out)) ≡ length (drop count out) = ap (λ (x : List ℕ). length x) same in
    let none : drop (length out - count) (drop count out) ≡ [] = drop_all (length out - count) (drop count out) (let len = length-drop count out in omega (arith, len)) in
    taken_more all before out rest replies count n (take count out ++ (copied ++ drop (length out - count) (drop count out))) after t (omega (arith, many)) (omega (arith, many, room))
    (ap (λ (x : List ℕ). take count out ++ (copied ++ x)) none ∙ ap (λ (x : List ℕ). take count out ++ x) (append-nil copied ∙ is ∙ ap (λ (x : List ℕ). take n rest ++ drop n x) same)) e
