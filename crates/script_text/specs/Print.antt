-- How output lines are printed.
use Rattle.std.specs.Prelude.{ℕ, Bool, false, not, ◌&&◌, ◌==◌, nat_le, List, [], ◌∷◌, ◌++◌, codes, if◌then◌else◌}
use Rattle.std.specs.List.{list_all, flat_map, join_with_byte}
use Rattle.hex.specs.Hex.{encode_lower}
use Rattle.repl_data.specs.declared.change.Val.{Val}
use Rattle.repl_data.specs.declared.change.Shown.{Shown}
use Rattle.repl_data.specs.declared.change.ShownEntry.{ShownEntry}

-- words, joined by one space, and a line feed
abbrev pub words_line : List (List ℕ) → List ℕ
words_line words = join_with_byte 32 words ++ 10 ∷ []

abbrev pub is_printable : ℕ → Bool
is_printable b = nat_le 32 b && nat_le b 126

-- a value that stands as it is: not empty, of bytes 0x20 to 0x7e alone, and with no space in front
abbrev pub is_plain : List ℕ → Bool
is_plain [] = false
is_plain (b ∷ bytes) = not (b == 32) && list_all is_printable (b ∷ bytes)

-- a space, the attribute, `: ` and the value, or `:x ` and the value in hexadecimal
unfoldable pub plain_line : List ℕ → List ℕ → List ℕ
plain_line attr value = codes " " ++ attr ++ codes ": " ++ value ++ codes "\n"

unfoldable pub hexadecimal_line : List ℕ → List ℕ → List ℕ
hexadecimal_line attr value = codes " " ++ attr ++ codes ":x " ++ encode_lower value ++ codes "\n"

abbrev pub value_line : List ℕ → Val → List ℕ
value_line attr v = if is_plain v.spelled then plain_line attr v.spelled else hexadecimal_line attr v.spelled

abbrev pub attr_lines : Shown → List ℕ
attr_lines s = flat_map (value_line s.attr.name) s.vals

unfoldable pub dn_line : List ℕ → List ℕ
dn_line dn = codes "dn: " ++ dn ++ codes "\n"

-- the lines of an entry: its name, and its values in the order in which they stand
abbrev pub entry_lines : ShownEntry → List ℕ
entry_lines e = dn_line e.dn ++ flat_map attr_lines e.attrs
