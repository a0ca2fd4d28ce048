-- A script that is read piece by piece.
use Rattle.std.proofs.Common.{◌≡◌, ℕ, List, [], ◌++◌, Option, Some, None, Result, Ok, Err, refl, sym, subst, ◌∙◌}
use Rattle.std.specs.Prelude.{MatchResult, IfSome}
use Rattle.std.specs.Io.KnownBytes.{Consumes, IsAtEnd}
use Rattle.std.proofs.KnownBytes.{Appends-nil}
use Rattle.dir_top.specs.declared.exec.Script.{Script}
use Rattle.dir_top.specs.declared.status.Status.{Status}
use Rattle.dir_top.specs.Output.{Told, Outcome}
use Rattle.dir_top.specs.declared.state.State.{State}
use Rattle.dir_top.specs.Script.{output}
use Rattle.io_edge.specs.Edge.{AppendsFront}
use Rattle.dir_top.specs.Running.{Reads, Reached}
use Rattle.dir_top.proofs.Runs.{wrote_so_far}

abbrev pub new_script : Script
new_script = record { world = None; line = []; lines = 0 }

pub begins : (start : Option (List ℕ)) (script : Script) (now : Option (List ℕ)) → script ≡ new_script → Reached start start script now now
begins None script now is = tt
begins (Some text) script now is = subst (λ (s : Script). Reads (output text) text s now now) (sym is) (record {
  part = refl;
  stands = record { printed = []; same = refl; written = Appends-nil now };
})

-- what take_piece ensures of a piece
abbrev pub Takes : List ℕ → Script → Option (List ℕ) → Script → Option (List ℕ) → Result (Unit {0}) Status → Type 0
Takes piece script now new later r = (whole : Told (Option State)) (rest : List ℕ) (old : Option (List ℕ)) → Reads whole (piece ++ rest) script old now
    → MatchResult r (λ _. Reads whole rest new old later) (λ status. Outcome whole status old later)

pub goes_on : (start left after : Option (List ℕ)) (piece : List ℕ) (script new : Script) (old now later : Option (List ℕ)) (r : Result (Unit {0}) Status)
    → Reached start left script old now → Consumes left after piece → Takes piece script now new later r
    → MatchResult r (λ _. Reached start after new old later) (λ status. IfSome start (λ text. Outcome (output text) status old later))
goes_on None left after piece script new old now later (Ok u) reached consumes takes = tt
goes_on None left after piece script new old now later (Err e) reached consumes takes = tt
goes_on (Some text) None after piece script new old now later r reached consumes takes = absurd reached
goes_on (Some text) (Some xs) None piece script new old now later r reached consumes takes = absurd consumes
goes_on (Some text) (Some xs) (Some ys) piece script new old now later (Ok u) reached consumes takes = takes (output text) ys old (subst (λ (l : List ℕ). Reads (output text) l script old now) consumes reached)
goes_on (Some text) (Some xs) (Some ys) piece script new old now later (Err e) reached consumes takes = takes (output text) ys old (subst (λ (l : List ℕ). Reads (output text) l script old now) consumes reached)

-- what finish ensures
abbrev pub Finishes : Script → Option (List ℕ) → Option (List ℕ) → Status → Type 0
Finishes script now later status = (whole : Told (Option State)) (old : Option (List ℕ)) → Reads whole [] script old now → Outcome whole status old later

pub ends : (start left after : Option (List ℕ)) (script : Script) (old now later : Option (List ℕ)) (status : Status)
    → Reached start left script old now → Consumes left after [] → IsAtEnd after → Finishes script now later status
    → IfSome start (λ text. Outcome (output text) status old later)
ends None left after script old now later status reached consumes end finishes = tt
ends (Some text) None after script old now later status reached consumes end finishes = absurd reached
ends (Some text) (Some xs) None script old now later status reached consumes end finishes = absurd consumes
ends (Some text) (Some xs) (Some ys) script old now later status reached consumes end finishes = finishes (output text) old (subst (λ (l : List ℕ). Reads (output text) l script old now) (consumes ∙ end) reached)

pub stopped : (start left : Option (List ℕ)) (script : Script) (old now : Option (List ℕ)) → Reached start left script old now → IfSome start (λ text. AppendsFront old now (output text).text)
stopped None left script old now reached = tt
stopped (Some text) None script old now reached = absurd reached
stopped (Some text) (Some xs) script old now reached = wrote_so_far (output text) _ script old now reached.stands
