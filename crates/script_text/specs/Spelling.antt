-- Which text spells which line of the script, and how a line is written.
use Rattle.std.specs.Prelude.{◌≡◌, ◌≢◌, ℕ, ◌^◌, ◌≤◌, ◌-◌, List, [], ◌∷◌, codes, Ok}
use Rattle.std.specs.List.{join_with_byte}
use Rattle.std.specs.Fmt.{decimal}
use Rattle.hex.specs.Hex.{IsBytes, decode_of, encode_lower}
use Rattle.script_text.specs.declared.line.Line.{Line}
use Rattle.script_text.specs.declared.line.Line.TheVariants.{Nothing, Nodes, Clock, Connect, Input, StartWrite, Commit, Settle, Abort, Acquire, Release, Offer, Deliver, Pump, Restart, Fail, Vector, Dump, Audit}

-- ---- the ranges of numbers

pub record IsFromTo (low high n : ℕ) : Type 0 where
  pub least : low ≤ n
  pub most : n ≤ high

abbrev pub IsNode : ℕ → Type 0
IsNode = IsFromTo 1 8

abbrev pub IsConnection : ℕ → Type 0
IsConnection = IsFromTo 1 64

abbrev pub IsTicket : ℕ → Type 0
IsTicket = IsFromTo 1 1000000

-- each number of the line lies in its range
abbrev pub IsInRange : Line → Type 0
IsInRange Nothing = Unit {0}
IsInRange (Nodes n) = IsNode n
IsInRange (Clock time) = IsFromTo 0 4294967295 time
IsInRange (Connect c n) = IsConnection c × IsNode n
IsInRange (Input c bytes) = IsConnection c
IsInRange (StartWrite k c bytes) = IsTicket k × IsConnection c
IsInRange (Commit k) = IsTicket k
IsInRange (Settle k) = IsTicket k
IsInRange (Abort k) = IsTicket k
IsInRange (Acquire a b) = IsNode a × IsNode b
IsInRange (Release a b) = IsNode a × IsNode b
IsInRange (Offer a b) = IsNode a × IsNode b
IsInRange (Deliver b u) = IsNode b × IsFromTo 0 (2 ^ 64 - 1) u
IsInRange (Pump a b) = IsNode a × IsNode b
IsInRange (Restart n) = IsNode n
IsInRange (Fail n j) = IsNode n × IsFromTo 1 1000000 j
IsInRange (Vector n) = IsNode n
IsInRange (Dump n) = IsNode n
IsInRange (Audit n) = IsNode n

-- ---- words

-- the words of a line whose bytes, where it has any, stand as these digits
abbrev pub line_words : List ℕ → Line → List (List ℕ)
line_words digits Nothing = []
line_words digits (Nodes n) = codes "nodes" ∷ decimal n ∷ []
line_words digits (Clock time) = codes "clock" ∷ decimal time ∷ []
line_words digits (Connect c n) = codes "open" ∷ decimal c ∷ decimal n ∷ []
line_words digits (Input c bytes) = codes "in" ∷ decimal c ∷ digits ∷ []
line_words digits (StartWrite k c bytes) = codes "start" ∷ decimal k ∷ decimal c ∷ digits ∷ []
line_words digits (Commit k) = codes "commit" ∷ decimal k ∷ []
line_words digits (Settle k) = codes "settle" ∷ decimal k ∷ []
line_words digits (Abort k) = codes "abort" ∷ decimal k ∷ []
line_words digits (Acquire a b) = codes "acquire" ∷ decimal a ∷ decimal b ∷ []
line_words digits (Release a b) = codes "release" ∷ decimal a ∷ decimal b ∷ []
line_words digits (Offer a b) = codes "offer" ∷ decimal a ∷ decimal b ∷ []
line_words digits (Deliver b u) = codes "deliver" ∷ decimal b ∷ decimal u ∷ []
line_words digits (Pump a b) = codes "pump" ∷ decimal a ∷ decimal b ∷ []
line_words digits (Restart n) = codes "restart" ∷ decimal n ∷ []
line_words digits (Fail n j) = codes "fail" ∷ decimal n ∷ decimal j ∷ []
line_words digits (Vector n) = codes "vector" ∷ decimal n ∷ []
line_words digits (Dump n) = codes "dump" ∷ decimal n ∷ []
line_words digits (Audit n) = codes "audit" ∷ decimal n ∷ []

-- hexadecimal digits of either case spell these bytes, of which there is at least one
pub record SpellsBytes (digits bytes : List ℕ) : Type 0 where
  pub some : bytes ≢ []
  pub spelled : decode_of digits ≡ Ok bytes

abbrev pub SpellsBytesOf : List ℕ → Line → Type 0
SpellsBytesOf digits (Input c bytes) = SpellsBytes digits bytes
SpellsBytesOf digits (StartWrite k c bytes) = SpellsBytes digits bytes
SpellsBytesOf digits line = digits ≡ []

-- ---- spelling

pub record SpellsWith (digits text : List ℕ) (line : Line) : Type 0 where
  pub in_range : IsInRange line
  pub bytes : SpellsBytesOf digits line
  pub words : text ≡ join_with_byte 32 (line_words digits line)

-- an empty text, or one that begins with `#`
abbrev pub DoesNothing : List ℕ → Type 0
DoesNothing [] = Unit {0}
DoesNothing (b ∷ text) = b ≡ 35

-- The text spells the line: its words stand with one space between each two, numbers in decimal without a leading zero.
abbrev pub Spells : List ℕ → Line → Type 0
Spells text Nothing = DoesNothing text
Spells text line = (digits : List ℕ) × SpellsWith digits text line

-- ---- writing

-- the bytes of a line in hexadecimal, in lower case
abbrev pub line_digits : Line → List ℕ
line_digits (Input c bytes) = encode_lower bytes
line_digits (StartWrite k c bytes) = encode_lower bytes
line_digits line = []

abbrev pub line_text : Line → List ℕ
line_text line = join_with_byte 32 (line_words (line_digits line) line)

-- ---- lines that can be written

pub record AreSomeBytes (all : List ℕ) : Type 0 where
  pub some : all ≢ []
  pub bytes : IsBytes all

abbrev pub HasBytes : Line → Type 0
HasBytes (Input c bytes) = AreSomeBytes bytes
HasBytes (StartWrite k c bytes) = AreSomeBytes bytes
HasBytes line = Unit {0}

-- a line of the grammar: its numbers lie in their ranges, and where it has bytes there is at least one
pub record IsWritable (line : Line) : Type 0 where
  pub in_range : IsInRange line
  pub bytes : HasBytes line
