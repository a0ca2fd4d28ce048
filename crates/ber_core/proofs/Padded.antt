-- Eight bytes, of which some stand in the middle.
use Rattle.std.proofs.Common.{◌≡◌, ℕ, suc, ◌-◌, ◌+◌, ◌<◌, ◌≤◌, List, ◌++◌, length, take, get_or, replicate, set, sym, ap, ◌∙◌, append_assoc, arith, length-append}
use Rattle.std.proofs.lemmas.List.{append-nil, replicate-append-replicate, set_at, length-take, length-replicate, take_more}

-- the eight bytes once i of them are written
abbrev pub so_far : ℕ → ℕ → List ℕ → ℕ → List ℕ
so_far pad count bytes i = replicate (8 - count) pad ++ take i bytes ++ replicate (count - i) pad

pub so_far-zero : (pad count : ℕ) (bytes : List ℕ) → count ≤ 8 → replicate 8 pad ≡ so_far pad count bytes 0
so_far-zero pad count bytes le =
    let all : 8 - count + (count - 0) ≡ 8 = omega arith in
    ap (λ (n : ℕ). replicate n pad) (sym all) ∙ sym (replicate-append-replicate (8 - count) (count - 0) pad) ∙ sym (ap (λ (xs : List ℕ). xs ++ replicate (count - 0) pad) (append-nil (replicate (8 - count) pad)))

pub so_far-set : (pad count : ℕ) (bytes : List ℕ) (i : ℕ) → i < length bytes → length bytes ≤ count → set (so_far pad count bytes i) (8 - count + i) (get_or bytes i 0) ≡ so_far pad count bytes (i + 1)
so_far-set pad count bytes i lt le =
    let k : count - i ≡ suc (count - (i + 1)) = omega arith in
    let v = get_or bytes i 0 in
    let rest = replicate (count - (i + 1)) pad in
    let front = replicate (8 - count) pad ++ take i bytes in
    let len : length front ≡ 8 - count + i = omega (arith, length-append (replicate (8 - count) pad) (take i bytes), length-replicate (8 - count) pad, length-take i bytes) in
    rw (k, take_more bytes i 0 lt) (set_at front pad rest v (8 - count + i) len ∙ simp append_assoc)
