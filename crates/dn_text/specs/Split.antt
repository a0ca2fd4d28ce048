-- Cutting a name's text at its separators, and the spaces around its pieces. A backslash takes the byte
-- after it along, so that byte is no separator and no space (RFC 4514, section 3).
use Rattle.std.specs.Prelude.{ℕ, ◌+◌, Bool, false, ◌==◌, ◌&&◌, not, List, [], ◌∷◌, take, drop, if◌then◌else◌}

-- the byte is this one, and no backslash stands before it
abbrev pub is_bare : Bool → ℕ → ℕ → Bool
is_bare escaped by c = not escaped && c == by

-- the byte is a backslash that takes the next byte along
abbrev pub escapes_next : Bool → ℕ → Bool
escapes_next escaped c = not escaped && c == 92

-- How many bytes stand before the first unescaped byte that is this one, or how many there are. The flag
-- says that a backslash takes the first byte along.
unfoldable pub bare_len : ℕ → Bool → List ℕ → ℕ
bare_len by escaped [] = 0
bare_len by escaped (c ∷ cs) = if is_bare escaped by c then 0 else bare_len by (escapes_next escaped c) cs + 1

-- a text, and the place in the name where it begins
pub record Span : Type 0 where
  pub start : ℕ
  pub text : List ℕ

-- the first piece with one more byte in front
abbrev pub put_front : ℕ → ℕ → List Span → List Span
put_front at c [] = []
put_front at c (s ∷ ss) = record { start = at; text = c ∷ s.text } ∷ ss

unfoldable pub pieces_from : ℕ → Bool → ℕ → List ℕ → List Span
pieces_from by escaped at [] = record { start = at; text = [] } ∷ []
pieces_from by escaped at (c ∷ cs) =
    if is_bare escaped by c then record { start = at; text = [] } ∷ pieces_from by false (at + 1) cs
    else put_front at c (pieces_from by (escapes_next escaped c) (at + 1) cs)

-- the text, which begins at this place, cut at each unescaped byte that is this one
abbrev pub pieces : ℕ → ℕ → List ℕ → List Span
pieces by at text = pieces_from by false at text

-- how many spaces the text begins with
unfoldable pub space_count : List ℕ → ℕ
space_count [] = 0
space_count (c ∷ cs) = if c == 32 then space_count cs + 1 else 0

-- How long the text is up to the last byte that is no unescaped space: `n` bytes stand before these, and
-- so far `kept` are kept.
unfoldable pub kept_from : Bool → ℕ → ℕ → List ℕ → ℕ
kept_from escaped n kept [] = kept
kept_from escaped n kept (c ∷ cs) = kept_from (escapes_next escaped c) (n + 1) (if is_bare escaped 32 c then kept else n + 1) cs

abbrev pub kept_len : List ℕ → ℕ
kept_len text = kept_from false 0 0 text

abbrev pub without_end : ℕ → List ℕ → Span
without_end at text = record { start = at; text = take (kept_len text) text }

-- the text, which begins at this place, without the unescaped spaces around it
abbrev pub trimmed : ℕ → List ℕ → Span
trimmed at text = without_end (at + space_count text) (drop (space_count text) text)
