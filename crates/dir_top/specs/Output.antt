-- What a script writes: its lines are carried out one after the other, each on the state that the one before left, up to
-- the first that is not. Only the meaning of one line differs from one state of the program to the next.
use Rattle.std.specs.Prelude.{◌≡◌, ℕ, ◌+◌, ◌==◌, if◌then◌else◌, List, [], ◌∷◌, ◌++◌, Option}
use Rattle.std.specs.List.{list_any}
use Rattle.std.specs.Str.Lines.{strip_carriage_return}
use Rattle.std.specs.Io.KnownBytes.{Appends}
use Rattle.io_edge.specs.Edge.{AppendsFront}
use Rattle.dir_top.specs.declared.status.Status.{Status}
use Rattle.dir_top.specs.declared.status.Status.TheVariants.{Done, Usage, ScriptRefused, TooLong, ReadFault, WriteFault, NoMemory, NotYet}
use Rattle.dir_top.specs.declared.why.LineWhy.{LineWhy}

-- ---- lines

-- a byte stands at the front of the first line
abbrev pub onto_first : ℕ → List (List ℕ) → List (List ℕ)
onto_first b [] = (b ∷ []) ∷ []
onto_first b (line ∷ lines) = (b ∷ line) ∷ lines

-- the lines of a text, each with its line feed; a last line without one counts, and nothing after the last line feed is no line
unfoldable pub lines_of : List ℕ → List (List ℕ)
lines_of [] = []
lines_of (b ∷ bytes) = if b == 10 then (10 ∷ []) ∷ lines_of bytes else onto_first b (lines_of bytes)

-- what stands before the line feed
abbrev pub before_feed : List ℕ → List ℕ
before_feed [] = []
before_feed (b ∷ bytes) = if b == 10 then [] else b ∷ before_feed bytes

-- what stands before the line feed, without the carriage return that may stand just before it; a line that has no line
-- feed keeps it
abbrev pub content_of : List ℕ → List ℕ
content_of line = if list_any (λ b. b == 10) line then strip_carriage_return (before_feed line) else line

-- ---- the lines one after the other

-- what a line does: it leads on to the next state and writes a text, or the script stops before it
pub data LineStep (S : Type 0) : Type 0 where
  GoesOn : (next : S) → (text : List ℕ) → LineStep S
  Refuses : (why : LineWhy) → LineStep S
  NotBuilt : LineStep S
  TooMany : LineStep S

-- where a script stops: after its last line, or before the line of this number
pub data Stop : Type 0 where
  AtEnd : Stop
  AtRefused : (line : ℕ) → (why : LineWhy) → Stop
  AtNotBuilt : (line : ℕ) → Stop
  AtTooMany : Stop

-- what has become of a script
pub record Told (S : Type 0) : Type 0 where
  pub state : S
  pub text : List ℕ
  pub stop : Stop

-- the text of a line, and then what becomes of the lines after it
abbrev pub after_text : {S : Type 0} → List ℕ → Told S → Told S
after_text text t = record { state = t.state; text = text ++ t.text; stop = t.stop }

-- what becomes of the lines from this number on, where `step` is the meaning of one line, by the state and its number
abbrev pub told : {S : Type 0} → (S → ℕ → List ℕ → LineStep S) → S → ℕ → List (List ℕ) → Told S
told step s number [] = record { state = s; text = []; stop = AtEnd }
told step s number (line ∷ lines) =
    elim (step s number line) [
      | GoesOn next text ↦ after_text text (told step next (number + 1) lines)
      | Refuses why ↦ record { state = s; text = []; stop = AtRefused number why }
      | NotBuilt ↦ record { state = s; text = []; stop = AtNotBuilt number }
      | TooMany ↦ record { state = s; text = []; stop = AtTooMany }
    ]

-- what becomes of a script
abbrev pub told_of : {S : Type 0} → (S → ℕ → List ℕ → LineStep S) → S → List ℕ → Told S
told_of step start bytes = told step start 1 (lines_of bytes)

-- ---- the states of a script

-- each state that the lines lead to, from this one on, has this property
abbrev pub AllStates : {S : Type 0} → (S → ℕ → List ℕ → LineStep S) → (S → Type 0) → S → ℕ → List (List ℕ) → Type 0
AllStates step P s number [] = P s
AllStates step P s number (line ∷ lines) =
    P s
    × elim (step s number line) [
      | GoesOn next text ↦ AllStates step P next (number + 1) lines
      | Refuses why ↦ Unit {0}
      | NotBuilt ↦ Unit {0}
      | TooMany ↦ Unit {0}
    ]

-- ---- the status

-- What a status says: the script ended, or stopped before this line, with its whole text written. After any other status but
-- `Usage`, which is of the words alone, a front of that text was written.
abbrev pub Outcome : {S : Type 0} → Told S → Status → Option (List ℕ) → Option (List ℕ) → Type 0
Outcome t Done old new = (t.stop ≡ AtEnd) × Appends old new t.text
Outcome t (ScriptRefused line why) old new = (t.stop ≡ AtRefused line why) × Appends old new t.text
Outcome t (NotYet line) old new = (t.stop ≡ AtNotBuilt line) × Appends old new t.text
Outcome t TooLong old new = (t.stop ≡ AtTooMany) × Appends old new t.text
Outcome t (Usage word) old new = ⊥
Outcome t ReadFault old new = AppendsFront old new t.text
Outcome t WriteFault old new = AppendsFront old new t.text
Outcome t NoMemory old new = AppendsFront old new t.text
