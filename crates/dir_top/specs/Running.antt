-- How far a script that is being read has come.
use Rattle.std.specs.Prelude.{◌≡◌, ◌≤◌, ℕ, ◌+◌, ◌==◌, Bool, true, false, List, [], ◌∷◌, ◌++◌, length, Option, Some, None, if◌then◌else◌, codes, bytes_eq}
use Rattle.std.specs.List.{list_any}
use Rattle.std.specs.Str.Lines.{strip_carriage_return}
use Rattle.std.specs.Io.KnownBytes.{Appends}
use Rattle.dir_top.specs.declared.state.State.{State}
use Rattle.dir_top.specs.declared.exec.Script.{Script}
use Rattle.dir_top.specs.declared.status.Status.{Status}
use Rattle.dir_top.specs.declared.status.Status.TheVariants.{Done, Usage, ScriptRefused, TooLong, ReadFault, WriteFault, NoMemory, NotYet}
use Rattle.dir_top.specs.Output.{Told, told, after_text, lines_of}
use Rattle.dir_top.specs.Script.{script_line, line_limit, length_limit, output}

-- What has become of the whole is what was printed so far, and then what becomes of the lines ahead; the sink got the former.
pub record Stands (whole : Told (Option State)) (ahead : List (List ℕ)) (script : Script) (old now : Option (List ℕ)) : Type 0 where
  pub printed : List ℕ
  pub same : whole ≡ after_text printed (told script_line script.world (script.lines + 1) ahead)
  pub written : Appends old now printed

-- The line that is being read has no line feed so far, and these bytes follow it.
pub record Reads (whole : Told (Option State)) (rest : List ℕ) (script : Script) (old now : Option (List ℕ)) : Type 0 where
  pub part : list_any (λ b. b == 10) script.line ≡ false
  pub stands : Stands whole (lines_of (script.line ++ rest)) script old now

-- the content of a line, which a line feed ended or not
abbrev pub content_at : Bool → List ℕ → List ℕ
content_at true line = strip_carriage_return line
content_at false line = line

-- no more than the greatest number of lines came, and no more than the greatest line
abbrev pub IsWithin : Script → Type 0
IsWithin script = (script.lines ≤ line_limit) × (length script.line ≤ length_limit)

-- Of a script that is known from the start, what is left is still to be read.
abbrev pub Reached : Option (List ℕ) → Option (List ℕ) → Script → Option (List ℕ) → Option (List ℕ) → Type 0
Reached None left script old now = Unit {0}
Reached (Some text) None script old now = ⊥
Reached (Some text) (Some left) script old now = Reads (output text) left script old now

-- what carrying out a line may answer
abbrev pub IsFromLine : Status → Type 0
IsFromLine Done = ⊥
IsFromLine (Usage word) = ⊥
IsFromLine (ScriptRefused line why) = Unit {0}
IsFromLine TooLong = Unit {0}
IsFromLine ReadFault = ⊥
IsFromLine WriteFault = Unit {0}
IsFromLine NoMemory = Unit {0}
IsFromLine (NotYet line) = Unit {0}

-- what a run may answer: anything but wrong words
abbrev pub IsFromRun : Status → Type 0
IsFromRun Done = Unit {0}
IsFromRun (Usage word) = ⊥
IsFromRun (ScriptRefused line why) = Unit {0}
IsFromRun TooLong = Unit {0}
IsFromRun ReadFault = Unit {0}
IsFromRun WriteFault = Unit {0}
IsFromRun NoMemory = Unit {0}
IsFromRun (NotYet line) = Unit {0}

-- the first wrong word, or nothing where there is none at all; the words are to be `exec` alone
abbrev pub wrong_word : List (List ℕ) → Option (List ℕ)
wrong_word [] = Some []
wrong_word (first ∷ []) = if bytes_eq first (codes "exec") then None else Some first
wrong_word (first ∷ second ∷ others) = if bytes_eq first (codes "exec") then Some second else Some first
