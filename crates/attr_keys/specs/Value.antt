-- Which values an attribute accepts, and their keys.
use Rattle.std.specs.Prelude.{◌≡◌, ℕ, ◌+◌, ◌*◌, ◌-◌, ◌^◌, Bool, true, false, ◌==◌, ◌||◌, ◌&&◌, not, nat_le, ℤ, pos, ◌-ℤ◌, List, [], ◌∷◌, length, map, filter, position, drop, slice_index, chars, encode_utf8_all, Option, Some, None, if◌then◌else◌}
use Rattle.std.specs.List.{list_any}
use Rattle.std.specs.Char.{to_ascii_lowercase}
use Rattle.std.specs.Int.{is_in_range}
use Rattle.std.specs.Str.{is_utf8}
use Rattle.std.specs.Str.Lossy.{utf8_valid_len, utf8_error_len}
use Rattle.std.specs.Cmp.Lexicographic.{slice_cmp}
use Rattle.std.specs.Ordering.{nat_cmp, int_cmp}
use Rattle.std.specs.declared.cmp.Ordering.{Ordering}
use Rattle.attr_keys.specs.declared.kind.Kind.{Kind}
use Rattle.attr_keys.specs.declared.kind.Kind.TheVariants.{Dir, Exact, Ia5, Int, Tel, Oct}
use Rattle.attr_keys.specs.declared.fault.KeyFault.{KeyFault}
use Rattle.attr_keys.specs.declared.fault.KeyFault.TheVariants.{NoMemory, BadName, BadValue}
use Rattle.attr_keys.specs.declared.number.NumberState.{NumberState}
use Rattle.attr_keys.specs.declared.number.NumberState.TheVariants.{Start, Minus, Zero, Digits}
use Rattle.attr_keys.specs.Name.{is_digit}
use Rattle.unicode_normalization.specs.Forms.{nfkc}
use Rattle.repl_data.specs.Key.{folded, squeezed, trimmed}

-- ---- texts

-- Where bytes stop being UTF-8: the byte that can't begin a character, or the first that can't go on
-- with one, or the length where the bytes end within a character.
abbrev pub character_fault : ℕ → ℕ → ℕ → Option ℕ → ℕ
character_fault len valid first None = len
character_fault len valid first (Some k) = if is_in_range 0xC2 0xF4 first then valid + k else valid

unfoldable pub utf8_fault : List ℕ → ℕ
utf8_fault bytes =
    let valid = utf8_valid_len bytes in
    character_fault (length bytes) valid (slice_index bytes valid) (utf8_error_len (drop valid bytes))

-- a value of this kind of bytes alone has no text
abbrev pub bad_unless : Bool → List ℕ → Option ℕ
bad_unless good bytes = if good then None else Some (length bytes)

abbrev pub has_text : List ℕ → Bool
has_text bytes = list_any (λ b. not (b == 32)) bytes

-- UTF-8, and not only spaces
unfoldable pub bad_text : List ℕ → Option ℕ
bad_text bytes = if is_utf8 bytes then bad_unless (has_text bytes) bytes else Some (utf8_fault bytes)

abbrev pub first_or : Option ℕ → Option ℕ → Option ℕ
first_or None later = later
first_or (Some place) later = Some place

-- ASCII, and not only spaces
abbrev pub bad_ascii : List ℕ → Option ℕ
bad_ascii bytes = first_or (position (λ b. nat_le 128 b) bytes) (bad_unless (has_text bytes) bytes)

-- ---- telephone numbers

abbrev pub is_mark : ℕ → Bool
is_mark b = b == 32 || b == 45

-- printable ASCII, and not only spaces and hyphens
abbrev pub bad_phone : List ℕ → Option ℕ
bad_phone bytes =
    first_or (position (λ b. not (nat_le 32 b && nat_le b 126)) bytes) (bad_unless (list_any (λ b. not (is_mark b)) bytes) bytes)

-- ---- integers: `0`, or an optional `-` and digits without a leading 0, of 64 bits with sign

abbrev pub limit : Bool → ℕ
limit true = 2 ^ 63
limit false = 2 ^ 63 - 1

-- one more digit
abbrev pub with_digit : Bool → ℕ → ℕ → Option NumberState
with_digit negative value b =
    if is_digit b && nat_le (10 * value + (b - 48)) (limit negative)
    then Some (Digits negative (10 * value + (b - 48)))
    else None

-- the first digit of a number that is not 0
abbrev pub first_digit : Bool → ℕ → Option NumberState
first_digit negative b = if nat_le 49 b && nat_le b 57 then Some (Digits negative (b - 48)) else None

abbrev pub next_number : NumberState → ℕ → Option NumberState
next_number Start b = if b == 45 then Some Minus else if b == 48 then Some Zero else first_digit false b
next_number Minus b = first_digit true b
next_number Zero b = None
next_number (Digits negative value) b = with_digit negative value b

abbrev pub is_whole : NumberState → Bool
is_whole Start = false
is_whole Minus = false
is_whole Zero = true
is_whole (Digits negative value) = true

-- the first bad place from this state on, if there is one
unfoldable pub bad_number_from : NumberState → ℕ → List ℕ → Option ℕ
bad_number_from s at [] = if is_whole s then None else Some at
bad_number_from s at (b ∷ bs) = elim (next_number s b) [ None ↦ Some at | Some t ↦ bad_number_from t (at + 1) bs ]

abbrev pub bad_integer : List ℕ → Option ℕ
bad_integer bytes = bad_number_from Start 0 bytes

-- the integer that a text of this state spells
abbrev pub signed : Bool → ℕ → ℤ
signed false value = pos value
signed true value = pos 0 -ℤ pos value

abbrev pub whole_value : NumberState → Option ℤ
whole_value Start = None
whole_value Minus = None
whole_value Zero = Some (pos 0)
whole_value (Digits negative value) = Some (signed negative value)

unfoldable pub integer_from : NumberState → List ℕ → Option ℤ
integer_from s [] = whole_value s
integer_from s (b ∷ bs) = elim (next_number s b) [ None ↦ None | Some t ↦ integer_from t bs ]

-- the integer that a text spells, where it spells one
abbrev pub integer_of : List ℕ → Option ℤ
integer_of bytes = integer_from Start bytes

-- ---- which values are accepted

-- the first byte with which a value can't be continued to one that is accepted, or the length of one that can
unfoldable pub bad_value : Kind → List ℕ → Option ℕ
bad_value Dir bytes = bad_text bytes
bad_value Exact bytes = bad_text bytes
bad_value Ia5 bytes = bad_ascii bytes
bad_value Int bytes = bad_integer bytes
bad_value Tel bytes = bad_phone bytes
bad_value Oct bytes = None

-- the fault is the one that a value with this bad place has; memory may be wanting for any other
abbrev pub IsValueFault : Option ℕ → KeyFault → Type 0
IsValueFault bad NoMemory = bad ≡ None
IsValueFault bad (BadName place) = ⊥
IsValueFault bad (BadValue place) = bad ≡ Some place

-- ---- keys

unfoldable pub composed : List ℕ → List ℕ
composed bytes = encode_utf8_all (nfkc (chars bytes))

-- in lower case, without spaces and hyphens (RFC 4518, section 2.6.3)
abbrev pub phone_key : List ℕ → List ℕ
phone_key bytes = map to_ascii_lowercase (filter (λ b. not (is_mark b)) bytes)

-- a value as it is before spaces are looked at
unfoldable pub prepared : Kind → List ℕ → List ℕ
prepared Dir bytes = folded bytes
prepared Exact bytes = composed bytes
prepared Ia5 bytes = folded bytes
prepared Int bytes = bytes
prepared Tel bytes = phone_key bytes
prepared Oct bytes = bytes

-- the kinds in which runs of spaces count as one (RFC 4518, section 2.6.1)
abbrev pub is_spaced : Kind → Bool
is_spaced Dir = true
is_spaced Exact = true
is_spaced Ia5 = true
is_spaced Int = false
is_spaced Tel = false
is_spaced Oct = false

-- the key of a value
unfoldable pub value_key : Kind → List ℕ → List ℕ
value_key kind bytes = if is_spaced kind then trimmed (prepared kind bytes) else prepared kind bytes

-- the key of a piece of a value: outer spaces are kept, as one space each
unfoldable pub piece_key : Kind → List ℕ → List ℕ
piece_key kind bytes = if is_spaced kind then squeezed false (prepared kind bytes) else prepared kind bytes

-- ---- the order of keys

abbrev pub by_value : Option ℤ → Option ℤ → Ordering → Ordering
by_value None b otherwise = otherwise
by_value (Some a) None otherwise = otherwise
by_value (Some a) (Some b) otherwise = int_cmp a b

-- integers by value, and all others by the bytes of the keys
unfoldable pub compared : Kind → List ℕ → List ℕ → Ordering
compared Dir a b = slice_cmp nat_cmp a b
compared Exact a b = slice_cmp nat_cmp a b
compared Ia5 a b = slice_cmp nat_cmp a b
compared Int a b = by_value (integer_of a) (integer_of b) (slice_cmp nat_cmp a b)
compared Tel a b = slice_cmp nat_cmp a b
compared Oct a b = slice_cmp nat_cmp a b
