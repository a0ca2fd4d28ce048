-- Items that are read one after the other, as a loop does.
use Rattle.std.proofs.Common.{◌≡◌, ℕ, zero, suc, ◌+◌, ◌≤◌, ◌<◌, List, [], ◌∷◌, ◌++◌, Result, Ok, Err, refl, sym, ap, ◌∙◌, append_assoc, arith, get_or, drop, length}
use Rattle.std.proofs.lemmas.List.{drop_more, append-nil}
use Rattle.repl_wire.specs.declared.fault.WireFault.{WireFault}
use Rattle.repl_wire.specs.declared.fault.WireFault.TheVariants as fault
use Rattle.repl_wire.specs.Fault.{◌>>=◌, Fails}
use Rattle.repl_wire.specs.Keys.{each_from}

-- what was read before, and what is still read
abbrev pub in_front : {A : Type 0} → List A → Result (List A) WireFault → Result (List A) WireFault
in_front front read = read >>= λ xs. Ok (front ++ xs)

abbrev pub Read : {A : Type 0} → List A → Result (List A) WireFault → Result (List A) WireFault → Type 0
Read front read total = in_front front read ≡ total

regroup : {A : Type 0} (front : List A) (x : A) (read : Result (List A) WireFault) → in_front front (read >>= λ xs. Ok (x ∷ xs)) ≡ in_front (front ++ x ∷ []) read
regroup front x (Ok xs) = ap (λ (ys : List _). Ok ys) (simp append_assoc)
regroup front x (Err e) = refl

alone : {A : Type 0} (r : Result (List A) WireFault) → in_front [] r ≡ r
alone (Ok ys) = refl
alone (Err e) = refl

all_of : {A : Type 0} (ys : List A) → drop 0 ys ≡ ys
all_of [] = refl
all_of (y ∷ ys) = refl

none_of : {A : Type 0} (n : ℕ) (ys : List A) → length ys ≤ n → drop n ys ≡ []
none_of zero [] h = refl
none_of (suc n) [] h = refl
none_of zero (y ∷ ys) h = absurd (omega arith)
none_of (suc n) (y ∷ ys) h = none_of n ys (omega arith)

pub each_starts : {A B : Type 0} (piece : ℕ → A → Result B WireFault) (xs : List A) → Read [] (each_from piece 0 (drop 0 xs)) (each_from piece 0 xs)
each_starts piece xs = alone (each_from piece 0 (drop 0 xs)) ∙ ap (each_from piece 0) (all_of xs)

pub each_goes_on : {A B : Type 0} (piece : ℕ → A → Result B WireFault) (front : List B) (total : Result (List B) WireFault) (xs : List A) (i : ℕ) (x : A) (y : B) → i < length xs → x ≡ get_or xs i x → piece i x ≡ Ok y
    → Read front (each_from piece i (drop i xs)) total → Read (front ++ y ∷ []) (each_from piece (i + 1) (drop (i + 1) xs)) total
unfolding each_from
each_goes_on piece front total xs i x y lt is h so_far =
    let split : drop i xs ≡ x ∷ drop (i + 1) xs = drop_more xs i x lt ∙ ap (λ (z : _). z ∷ drop (i + 1) xs) (sym is) in
    let one : in_front front (each_from piece i (drop i xs)) ≡ in_front (front ++ y ∷ []) (each_from piece (i + 1) (drop (i + 1) xs)) = rw (split, h) (regroup front y (each_from piece (i + 1) (drop (i + 1) xs))) in
    sym one ∙ so_far

pub each_fails : {A B : Type 0} (e : WireFault) (piece : ℕ → A → Result B WireFault) (front : List B) (total : Result (List B) WireFault) (xs : List A) (i : ℕ) (x : A) → i < length xs → x ≡ get_or xs i x → Fails e (piece i x)
    → Read front (each_from piece i (drop i xs)) total → Fails e total
unfolding each_from
each_fails fault.NoMemory piece front total xs i x lt is h so_far = tt
each_fails (fault.Bad place why) piece front total xs i x lt is h so_far =
    let split : drop i xs ≡ x ∷ drop (i + 1) xs = drop_more xs i x lt ∙ ap (λ (z : _). z ∷ drop (i + 1) xs) (sym is) in
    let one : in_front front (each_from piece i (drop i xs)) ≡ Err (fault.Bad place why) = rw (split, h) refl in
    sym so_far ∙ one

pub each_done : {A B : Type 0} (piece : ℕ → A → Result B WireFault) (front : List B) (total : Result (List B) WireFault) (xs : List A) (i : ℕ) → length xs ≤ i → Read front (each_from piece i (drop i xs)) total → total ≡ Ok front
unfolding each_from
each_done piece front total xs i le so_far =
    let none : drop i xs ≡ [] = none_of i xs le in
    let one : in_front front (each_from piece i (drop i xs)) ≡ Ok front = rw none (ap (λ (ys : List _). Ok ys) (append-nil front)) in
    sym so_far ∙ one
