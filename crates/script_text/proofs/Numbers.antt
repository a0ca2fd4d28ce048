-- Decimal numbers.
use Rattle.std.proofs.Common.{◌≡◌, ℕ, ◌+◌, ◌*◌, ◌-◌, ◌^◌, ◌<◌, List, length, take, get_or, min, arith}
use Rattle.std.proofs.lemmas.List.Sums.{fold_more}
use Rattle.script_text.specs.Words.{value_of}

-- one digit more, held to the greatest value
pub value_more : (digits : List ℕ) (i : ℕ) → i < length digits
    → min (min (min (value_of (take i digits)) (2 ^ 128 - 1) * 10) (2 ^ 128 - 1) + (get_or digits i 0 - 48)) (2 ^ 128 - 1) ≡ min (value_of (take (i + 1) digits)) (2 ^ 128 - 1)
value_more digits i lt =
    let e : value_of (take (i + 1) digits) ≡ 10 * value_of (take i digits) + (get_or digits i 0 - 48) = fold_more (λ value d. 10 * value + (d - 48)) 0 digits i 0 lt in
    omega (arith, e)
