-- Attribute names: a word or a dotted number, and options (RFC 4512, sections 1.4 and 2.5).
use Rattle.std.specs.Prelude.{ℕ, ◌+◌, Bool, true, false, ◌==◌, ◌||◌, ◌&&◌, nat_le, List, [], ◌∷◌, length, take, drop, position, unwrap_or, Option, Some, None, if◌then◌else◌}
use Rattle.attr_keys.specs.declared.name.NameState.{NameState}
use Rattle.attr_keys.specs.declared.name.NameState.TheVariants.{Start, Word, NewOption, Arc, Zero, Digits}

abbrev pub is_digit : ℕ → Bool
is_digit c = nat_le 48 c && nat_le c 57

abbrev pub is_letter : ℕ → Bool
is_letter c = (nat_le 65 c && nat_le c 90) || (nat_le 97 c && nat_le c 122)

-- a letter, a digit or a hyphen
abbrev pub is_key_char : ℕ → Bool
is_key_char c = is_letter c || is_digit c || c == 45

-- The next state at a byte. A flag says whether a dot came; `Arc` awaits a number, and `NewOption` an option.
abbrev pub next_state : NameState → ℕ → Option NameState
next_state Start c = if is_letter c then Some Word else if c == 48 then Some (Zero false) else if is_digit c then Some (Digits false) else None
next_state Word c = if is_key_char c then Some Word else if c == 59 then Some NewOption else None
next_state NewOption c = if is_key_char c then Some Word else None
next_state Arc c = if c == 48 then Some (Zero true) else if is_digit c then Some (Digits true) else None
next_state (Zero dotted) c = if c == 46 then Some Arc else if dotted && c == 59 then Some NewOption else None
next_state (Digits dotted) c = if is_digit c then Some (Digits dotted) else if c == 46 then Some Arc else if dotted && c == 59 then Some NewOption else None

-- a name may end here
abbrev pub may_end : NameState → Bool
may_end Start = false
may_end Word = true
may_end NewOption = false
may_end Arc = false
may_end (Zero dotted) = dotted
may_end (Digits dotted) = dotted

-- the first bad place from this state on, if there is one
unfoldable pub bad_from : NameState → ℕ → List ℕ → Option ℕ
bad_from s at [] = if may_end s then None else Some at
bad_from s at (c ∷ cs) = elim (next_state s c) [ None ↦ Some at | Some t ↦ bad_from t (at + 1) cs ]

abbrev pub bad_name : List ℕ → Option ℕ
bad_name name = bad_from Start 0 name

-- how many bytes are before the first semicolon
abbrev pub base_len : List ℕ → ℕ
base_len name = unwrap_or (position (λ c. c == 59) name) (length name)

abbrev pub base_of : List ℕ → List ℕ
base_of name = take (base_len name) name

-- the first semicolon and what is after it
abbrev pub options_of : List ℕ → List ℕ
options_of name = drop (base_len name) name
