-- The value that a text with escapes spells: a backslash and a special byte, or a backslash and two
-- hexadecimal digits (RFC 4514, section 3: pair).
use Rattle.std.specs.Prelude.{ℕ, ◌+◌, ◌-◌, ◌*◌, Bool, ◌==◌, ◌||◌, ◌&&◌, nat_le, List, [], ◌∷◌, ◌++◌, Option, Some, None, Result, Ok, if◌then◌else◌}
use Rattle.std.specs.Option.{option_to_list}
use Rattle.dn_text.specs.declared.fault.DnFault.{DnFault}
use Rattle.dn_text.specs.declared.fault.DnWhy.TheVariants.{Char}
use Rattle.dn_text.specs.declared.escape.EscapeState.{EscapeState}
use Rattle.dn_text.specs.declared.escape.EscapeState.TheVariants.{Whole, Slash, Digit}
use Rattle.dn_text.specs.Fault.{◌>>=◌, bad}

-- a byte that may stand after a backslash: `"`, `+`, `,`, `;`, `<`, `>`, `\`, `=`, a space or `#`
abbrev pub is_special : ℕ → Bool
is_special c = c == 34 || c == 43 || c == 44 || c == 59 || c == 60 || c == 62 || c == 92 || c == 61 || c == 32 || c == 35

-- a byte that stands in no value without a backslash: `"`, `;`, `<` or `>`. (A comma or a plus sign ends a
-- value.)
abbrev pub is_refused : ℕ → Bool
is_refused c = c == 34 || c == 59 || c == 60 || c == 62

abbrev pub hex_digit : ℕ → Option ℕ
hex_digit c =
    if nat_le 48 c && nat_le c 57 then Some (c - 48)
    else if nat_le 97 c && nat_le c 102 then Some (c - 87)
    else if nat_le 65 c && nat_le c 70 then Some (c - 55)
    else None

-- the byte that two hexadecimal digits spell
abbrev pub pair_value : Option ℕ → Option ℕ → Option ℕ
pair_value None low = None
pair_value (Some high) None = None
pair_value (Some high) (Some low) = Some (16 * high + low)

abbrev pub hex_byte : ℕ → ℕ → Option ℕ
hex_byte high low = pair_value (hex_digit high) (hex_digit low)

abbrev pub one_digit : ℕ → ℕ → Option ℕ → Result (EscapeState × Option ℕ) DnFault
one_digit place c None = bad place Char
one_digit place c (Some high) = Ok (Digit place c, None)

abbrev pub two_digits : ℕ → Option ℕ → Result (EscapeState × Option ℕ) DnFault
two_digits place None = bad place Char
two_digits place (Some b) = Ok (Whole, Some b)

abbrev pub after_slash : ℕ → ℕ → Result (EscapeState × Option ℕ) DnFault
after_slash place c = if is_special c then Ok (Whole, Some c) else one_digit place c (hex_digit c)

abbrev pub after_digit : ℕ → ℕ → ℕ → Result (EscapeState × Option ℕ) DnFault
after_digit place high c = two_digits place (hex_byte high c)

-- where the reading stands after the byte at this place, and the byte of the value that ends with it, if one does
abbrev pub next_escape : EscapeState → ℕ → ℕ → Result (EscapeState × Option ℕ) DnFault
next_escape Whole at c = if c == 92 then Ok (Slash at, None) else Ok (Whole, Some c)
next_escape (Slash place) at c = after_slash place c
next_escape (Digit place high) at c = after_digit place high c

-- no escape may be open at the end
abbrev pub ended : EscapeState → Result (Unit {0}) DnFault
ended Whole = Ok tt
ended (Slash place) = bad place Char
ended (Digit place high) = bad place Char

-- each backslash of the text begins an escape
unfoldable pub escapes_from : EscapeState → ℕ → List ℕ → Result (Unit {0}) DnFault
escapes_from s at [] = ended s
escapes_from s at (c ∷ cs) = next_escape s at c >>= λ n. escapes_from n.0 (at + 1) cs

-- the same in a value, in which some bytes do not stand as they are
abbrev pub next_byte : EscapeState → ℕ → ℕ → Result (EscapeState × Option ℕ) DnFault
next_byte Whole at c = if is_refused c then bad at Char else next_escape Whole at c
next_byte (Slash place) at c = after_slash place c
next_byte (Digit place high) at c = after_digit place high c

-- the bytes of a value whose text begins at this place
unfoldable pub value_from : EscapeState → ℕ → List ℕ → Result (List ℕ) DnFault
value_from s at [] = ended s >>= λ u. Ok []
value_from s at (c ∷ cs) = next_byte s at c >>= λ n. value_from n.0 (at + 1) cs >>= λ bs. Ok (option_to_list n.1 ++ bs)

abbrev pub value_of : ℕ → List ℕ → Result (List ℕ) DnFault
value_of at text = value_from Whole at text
