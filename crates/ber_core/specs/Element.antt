-- What an element is: a tag, a length and that many bytes of content (X.690, section 8.1).
use Rattle.std.specs.Prelude.{◌≡◌, ℕ, ◌+◌, ◌<◌, ◌≤◌, ◌%◌, ◌⊎◌, ◌≢◌, List, [], ◌∷◌, ◌++◌, length, nat_lt, if◌then◌else◌}
use Rattle.std.specs.Int.{w64, to_be_bytes}
use Rattle.ber_core.specs.Number.{number, drop_zeros}

-- the short form of a length: one byte below 128, which is the length
pub record IsShortForm (b : ℕ) (digits : List ℕ) (n : ℕ) : Type 0 where
  pub first : b < 128
  pub alone : digits ≡ []
  pub value : n ≡ b

-- The long form: 128 and the count of digits, then the digits in base 256. Zeros may stand in
-- front. The standard allows up to 126 digits; a length of 64 bits needs no more than eight.
pub record IsLongForm (b : ℕ) (digits : List ℕ) (n : ℕ) : Type 0 where
  pub some : 0 < length digits
  pub up_to_eight : length digits ≤ 8
  pub first : b ≡ 128 + length digits
  pub value : n ≡ number digits

-- the bytes say the length n, in either form
abbrev pub IsLength : List ℕ → ℕ → Type 0
IsLength [] n = ⊥
IsLength (b ∷ digits) n = IsShortForm b digits n ⊎ IsLongForm b digits n

-- The tag is one byte. Five bits that are all ones would say that more bytes of it follow.
abbrev pub IsTag : ℕ → Type 0
IsTag tag = tag % 32 ≢ 31

-- the bytes are this tag and the length of that much content
pub record IsHeader (bytes : List ℕ) (tag content : ℕ) : Type 0 where
  pub len : List ℕ
  pub parts : bytes ≡ tag ∷ len
  pub tag_form : IsTag tag
  pub length_form : IsLength len content

-- the bytes are one element, with this tag and this content
pub record IsElement (bytes : List ℕ) (tag : ℕ) (body : List ℕ) : Type 0 where
  pub len : List ℕ
  pub parts : bytes ≡ tag ∷ len ++ body
  pub tag_form : IsTag tag
  pub length_form : IsLength len (length body)

-- the bytes are one element of at most this many bytes
abbrev pub IsElementWithin : ℕ → List ℕ → Type 0
IsElementWithin limit bytes = (tag : ℕ) × (body : List ℕ) × IsElement bytes tag body × (length bytes ≤ limit)

-- the bytes of a length as it is written, for one below 2 ^ 64
unfoldable pub shortest_length : ℕ → List ℕ
shortest_length n =
    if nat_lt n 128 then n ∷ [] else (128 + length (drop_zeros (to_be_bytes w64 n))) ∷ drop_zeros (to_be_bytes w64 n)

-- the bytes of an element as it is written
unfoldable pub element : ℕ → List ℕ → List ℕ
element tag body = tag ∷ shortest_length (length body) ++ body
