-- The words of a line: names, numbers and bytes.
use Rattle.std.specs.Prelude.{ℕ, ◌+◌, ◌-◌, ◌*◌, Bool, false, not, ◌&&◌, ◌||◌, length, nat_le, ◌==◌, if◌then◌else◌, List, [], ◌∷◌, fold, Option, Some, None}
use Rattle.std.specs.List.{list_all, slice_split}
use Rattle.std.specs.Result.{result_ok}
use Rattle.hex.specs.Hex.{decode_of}

-- words are separated by one space each
abbrev pub words_of : List ℕ → List (List ℕ)
words_of = slice_split (λ b. b == 32)

abbrev pub is_digit : ℕ → Bool
is_digit b = nat_le 48 b && nat_le b 57

-- decimal, without a leading zero
abbrev pub is_number : List ℕ → Bool
is_number [] = false
is_number (d ∷ ds) = list_all is_digit (d ∷ ds) && (not (d == 48) || (length ds == 0))

abbrev pub value_of : List ℕ → ℕ
value_of = fold (λ value d. 10 * value + (d - 48)) 0

-- the number that the word is, if it lies between these
abbrev pub number_in : ℕ → ℕ → List ℕ → Option ℕ
number_in low high word =
    if is_number word && (nat_le low (value_of word) && nat_le (value_of word) high) then Some (value_of word) else None

-- the bytes of an even, non-zero count of hexadecimal digits of either case
abbrev pub bytes_of : List ℕ → Option (List ℕ)
bytes_of [] = None
bytes_of (d ∷ ds) = result_ok (decode_of (d ∷ ds))
