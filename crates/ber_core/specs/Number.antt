-- Numbers, integers and truth values as bytes (X.690, sections 8.1.3.5, 8.2 and 8.3).
use Rattle.std.specs.Prelude.{ℕ, zero, suc, ◌-◌, ◌^◌, ◌<◌, ℤ, pos, ◌-ℤ◌, Bool, false, ◌==◌, ◌||◌, not, nat_lt, nat_le, List, [], ◌∷◌, ◌++◌, length, replicate, slice_index, Option, Some, None, if◌then◌else◌}
use Rattle.std.specs.Int.{w64, to_be_bytes, cast_unsigned}
use Rattle.std.specs.Int.Digits.{number_from_digits}

-- Each is a byte. The numbers in the lists of these definitions have no bound of their own.
abbrev pub IsBytes : List ℕ → Type 0
IsBytes bytes = (i : ℕ) → slice_index bytes i < 256

-- ---- lengths

-- the number whose digits in base 256 these bytes are, the highest first
abbrev pub number : List ℕ → ℕ
number bytes = number_from_digits 256 bytes

-- the least number of n bytes that begin with these
unfoldable pub least_number : ℕ → List ℕ → ℕ
least_number n bytes = number (bytes ++ replicate (n - length bytes) 0)

-- the bytes without the zeros in front: the fewest that are the digits of the same number
abbrev pub drop_zeros : List ℕ → List ℕ
drop_zeros [] = []
drop_zeros (zero ∷ bytes) = drop_zeros bytes
drop_zeros (suc b ∷ bytes) = suc b ∷ bytes

-- ---- integers

-- the first bit is set
abbrev pub is_negative : List ℕ → Bool
is_negative [] = false
is_negative (b ∷ bytes) = nat_le 128 b

-- the integer whose two's complement these bytes are
unfoldable pub integer : List ℕ → ℤ
integer bytes = if is_negative bytes then pos (number bytes) -ℤ pos (256 ^ length bytes) else pos (number bytes)

-- The integers that are read have one to eight bytes. Needless ones may stand in front.
abbrev pub integer_of : List ℕ → Option ℤ
integer_of bytes = if length bytes == 0 || nat_lt 8 (length bytes) then None else Some (integer bytes)

-- the byte that may stand in front of these without changing the integer
abbrev pub sign_byte : List ℕ → ℕ
sign_byte bytes = if is_negative bytes then 255 else 0

-- the first byte says no more than the sign of what follows it
abbrev pub is_needless : ℕ → List ℕ → Bool
is_needless b [] = false
is_needless b (c ∷ bytes) = b == sign_byte (c ∷ bytes)

-- the fewest bytes that spell the same integer
unfoldable pub drop_needless : List ℕ → List ℕ
drop_needless [] = []
drop_needless (b ∷ bytes) = if is_needless b bytes then drop_needless bytes else b ∷ bytes

-- the bytes of an integer as it is written, for one of 64 bits
unfoldable pub shortest_integer : ℤ → List ℕ
shortest_integer z = drop_needless (to_be_bytes w64 (cast_unsigned w64 z))

-- ---- truth values

-- one byte, of which each but 0 is true
abbrev pub boolean_of : List ℕ → Option Bool
boolean_of [] = None
boolean_of (b ∷ []) = Some (not (b == 0))
boolean_of (b ∷ c ∷ bytes) = None
