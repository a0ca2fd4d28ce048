-- A vector of which the whole slice was written.
use Rattle.std.proofs.Common.{◌≡◌, ℕ, List, [], ◌++◌, length, take, drop, ap, sym, ◌∙◌, arith}
use Rattle.std.proofs.lemmas.List.{append-nil, drop_all}
use Rattle.std.proofs.Math.Seq.{take-length}

pub written : {X : Type 0} (xs ys : List X) (n : ℕ) → length ys ≡ length xs → n ≡ length xs → take n (ys ++ drop (length ys) xs) ≡ ys
written {X = X} xs ys n e m = let rest : drop (length ys) xs ≡ [] = drop_all (length ys) xs (omega arith) in
    ap (λ (zs : List X). take n (ys ++ zs)) rest ∙ (ap (take n) (append-nil ys) ∙ (ap (λ (k : ℕ). take k ys) (m ∙ sym e) ∙ take-length ys))
