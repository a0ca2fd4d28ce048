-- How a run goes on by one line, and how a script falls into lines.
use Rattle.std.proofs.Common.{◌≡◌, ◌≢◌, ℕ, ◌+◌, ◌<◌, ◌≤◌, true, false, List, [], ◌∷◌, ◌++◌, drop, get_or, length, Option, Result, Ok, Err, inl, inr, refl, sym, ap, subst, ◌∙◌, append_assoc, length-append, add-one, arith, le-ltb, lt-ltb}
use Rattle.std.specs.Prelude.{◌==◌, ◌||◌, if◌then◌else◌, MatchResult, OnOk}
use Rattle.std.specs.List.{list_any}
use Rattle.std.specs.Io.KnownBytes.{Appends}
use Rattle.std.proofs.KnownBytes.{Appends-trans}
use Rattle.std.proofs.Math.Seq.{drop-cons}
use Rattle.std.proofs.lemmas.List.{append-nil, drop_all}
use Rattle.std.proofs.lemmas.Bool.Decides.{eqb_tells}
use Rattle.repl_data.proofs.Bools.{or_true}
use Rattle.io_edge.specs.Edge.{AppendsFront}
use Rattle.dir_top.specs.declared.state.State.{State}
use Rattle.dir_top.specs.declared.exec.Script.{Script}
use Rattle.dir_top.specs.declared.status.Status.{Status}
use Rattle.dir_top.specs.declared.status.Status.TheVariants as status
use Rattle.dir_top.specs.Output.{LineStep, GoesOn, Refuses, NotBuilt, TooMany, Told, Stop, AtRefused, AtNotBuilt, AtTooMany, told, after_text, onto_first, lines_of, before_feed, content_of, Outcome}
use Rattle.std.specs.Str.Lines.{strip_carriage_return}
use Rattle.dir_top.specs.declared.why.LineWhy.{LineWhy}
use Rattle.dir_top.specs.declared.why.LineWhy.TheVariants.{LongLine}
use Rattle.script_text.specs.Line.{line_of}
use Rattle.dir_top.specs.Script.{script_line, step_of, line_limit, length_limit}
use Rattle.dir_top.specs.Running.{Stands, Reads, content_at}
use Rattle.repl_data.proofs.Sound.{neither}

-- ---- the meaning of a line

-- a line within the limits means what its words do
pub within_limits : (w : Option State) (number : ℕ) (raw text : List ℕ) (r : LineStep (Option State)) → number ≤ line_limit → length (before_feed raw) ≤ length_limit
    → content_of raw ≡ text → step_of w (line_of text) ≡ r → script_line w number raw ≡ r
within_limits w number raw text r le short is means =
    rw (le-ltb line_limit number le, le-ltb length_limit (length (before_feed raw)) short) (ap (λ (t : List ℕ). step_of w (line_of t)) is ∙ means)

-- beyond the greatest number of lines there are too many
beyond_limit : (w : Option State) (number : ℕ) (raw : List ℕ) → line_limit < number → script_line w number raw ≡ TooMany
beyond_limit w number raw lt = rw (lt-ltb line_limit number lt) refl

-- a line that is too long
too_long : (w : Option State) (number : ℕ) (raw : List ℕ) → number ≤ line_limit → length_limit < length (before_feed raw) → script_line w number raw ≡ Refuses LongLine
too_long w number raw le lt = rw (le-ltb line_limit number le, lt-ltb length_limit (length (before_feed raw)) lt) refl

-- ---- one line more

-- what becomes of the lines after a step
abbrev after_step : Option State → ℕ → List (List ℕ) → LineStep (Option State) → Told (Option State)
after_step w number after s =
    elim s [
      | GoesOn next text ↦ after_text text (told script_line next (number + 1) after)
      | Refuses why ↦ record { state = w; text = []; stop = AtRefused number why }
      | NotBuilt ↦ record { state = w; text = []; stop = AtNotBuilt number }
      | TooMany ↦ record { state = w; text = []; stop = AtTooMany }
    ]

told_next : (w new : Option State) (number : ℕ) (raw : List ℕ) (after : List (List ℕ)) (piece : List ℕ) → script_line w number raw ≡ GoesOn new piece
    → told script_line w number (raw ∷ after) ≡ after_text piece (told script_line new (number + 1) after)
told_next w new number raw after piece is = ap (after_step w number after) is

regrouped : (a b : List ℕ) (t : Told (Option State)) → after_text a (after_text b t) ≡ after_text (a ++ b) t
regrouped a b t = λ i. record { state = t.state; text = sym (append_assoc a b t.text) i; stop = t.stop }

pub goes_on_by : (whole : Told (Option State)) (raw : List ℕ) (after : List (List ℕ)) (script : Script) (old now : Option (List ℕ)) (new : Option State) (piece : List ℕ)
    → (stands : Stands whole (raw ∷ after) script old now) → script_line script.world (script.lines + 1) raw ≡ GoesOn new piece
    → whole ≡ after_text (stands.printed ++ piece) (told script_line new (script.lines + 1 + 1) after)
goes_on_by whole raw after script old now new piece stands is =
    stands.same ∙ ap (after_text stands.printed) (told_next script.world new (script.lines + 1) raw after piece is) ∙ regrouped stands.printed piece (told script_line new (script.lines + 1 + 1) after)

pub stands_on : (whole : Told (Option State)) (raw : List ℕ) (after : List (List ℕ)) (script : Script) (old now : Option (List ℕ)) (new : Option State) (piece : List ℕ) (later : Option (List ℕ)) (line : List ℕ)
    → Stands whole (raw ∷ after) script old now → script_line script.world (script.lines + 1) raw ≡ GoesOn new piece → Appends now later piece
    → Stands whole after (record { world = new; line = line; lines = script.lines + 1 }) old later
stands_on whole raw after script old now new piece later line stands is appends =
    record {
      printed = stands.printed ++ piece;
      same = goes_on_by whole raw after script old now new piece stands is;
      written = Appends-trans old now later stands.printed piece stands.written appends;
    }

-- a front of the line's text was written
pub wrote_front : (whole : Told (Option State)) (raw : List ℕ) (after : List (List ℕ)) (script : Script) (old now : Option (List ℕ)) (new : Option State) (piece : List ℕ) (later : Option (List ℕ))
    → Stands whole (raw ∷ after) script old now → script_line script.world (script.lines + 1) raw ≡ GoesOn new piece → AppendsFront now later piece
    → AppendsFront old later whole.text
wrote_front whole raw after script old now new piece later stands is (front, rest, parts, appends) =
    let t = told script_line new (script.lines + 1 + 1) after in
    let text_is = ap (λ (x : Told (Option State)). x.text) (goes_on_by whole raw after script old now new piece stands is) in
    (stands.printed ++ front, rest ++ t.text, text_is ∙ cut t.text parts, Appends-trans old now later stands.printed front stands.written appends)
  where
    cut : (a : List ℕ) → piece ≡ front ++ rest → (stands.printed ++ piece) ++ a ≡ (stands.printed ++ front) ++ (rest ++ a)
    cut a e = rw e (simp append_assoc)

-- nothing of the line was written
pub wrote_so_far : (whole : Told (Option State)) (ahead : List (List ℕ)) (script : Script) (old now : Option (List ℕ)) → Stands whole ahead script old now → AppendsFront old now whole.text
wrote_so_far whole ahead script old now stands =
    (stands.printed, (told script_line script.world (script.lines + 1) ahead).text, ap (λ (t : Told (Option State)). t.text) stands.same, stands.written)

-- the script stops before the line
stops_at : (whole : Told (Option State)) (raw : List ℕ) (after : List (List ℕ)) (script : Script) (old now : Option (List ℕ)) (stop : Stop)
    → Stands whole (raw ∷ after) script old now → told script_line script.world (script.lines + 1) (raw ∷ after) ≡ record { state = script.world; text = []; stop = stop }
    → (whole.stop ≡ stop) × Appends old now whole.text
stops_at whole raw after script old now stop stands stopped =
    let all = stands.same ∙ ap (after_text stands.printed) stopped in
    (ap (λ (t : Told (Option State)). t.stop) all, subst (λ (x : List ℕ). Appends old now x) (sym (ap (λ (t : Told (Option State)). t.text) all ∙ append-nil stands.printed)) stands.written)

pub is_refused : (whole : Told (Option State)) (raw : List ℕ) (after : List (List ℕ)) (script : Script) (old now : Option (List ℕ)) (why : LineWhy)
    → Stands whole (raw ∷ after) script old now → script_line script.world (script.lines + 1) raw ≡ Refuses why → Outcome whole (status.ScriptRefused (script.lines + 1) why) old now
is_refused whole raw after script old now why stands is =
    stops_at whole raw after script old now (AtRefused (script.lines + 1) why) stands (ap (after_step script.world (script.lines + 1) after) is)

pub is_not_yet : (whole : Told (Option State)) (raw : List ℕ) (after : List (List ℕ)) (script : Script) (old now : Option (List ℕ))
    → Stands whole (raw ∷ after) script old now → script_line script.world (script.lines + 1) raw ≡ NotBuilt → Outcome whole (status.NotYet (script.lines + 1)) old now
is_not_yet whole raw after script old now stands is =
    stops_at whole raw after script old now (AtNotBuilt (script.lines + 1)) stands (ap (after_step script.world (script.lines + 1) after) is)

pub is_too_many : (whole : Told (Option State)) (raw : List ℕ) (after : List (List ℕ)) (script : Script) (old now : Option (List ℕ))
    → Stands whole (raw ∷ after) script old now → script.lines ≡ line_limit → Outcome whole status.TooLong old now
is_too_many whole raw after script old now stands all =
    stops_at whole raw after script old now AtTooMany stands
    (ap (after_step script.world (script.lines + 1) after) (beyond_limit script.world (script.lines + 1) raw (omega arith)))

pub is_long_line : (whole : Told (Option State)) (raw : List ℕ) (after : List (List ℕ)) (script : Script) (old now : Option (List ℕ))
    → length_limit < length (before_feed raw) → Stands whole (raw ∷ after) script old now → script.lines + 1 ≤ line_limit
    → Outcome whole (status.ScriptRefused (script.lines + 1) LongLine) old now
is_long_line whole raw after script old now long stands some =
    is_refused whole raw after script old now LongLine stands (too_long script.world (script.lines + 1) raw some long)

-- no line is left
pub is_done : (whole : Told (Option State)) (script : Script) (old now : Option (List ℕ)) → Stands whole [] script old now → Outcome whole status.Done old now
is_done whole script old now stands =
    (ap (λ (t : Told (Option State)). t.stop) stands.same, subst (λ (x : List ℕ). Appends old now x) (sym (ap (λ (t : Told (Option State)). t.text) stands.same ∙ append-nil stands.printed)) stands.written)

-- ---- how a script falls into lines

abbrev pub HasNoFeed : List ℕ → Type 0
HasNoFeed line = list_any (λ b. b == 10) line ≡ false

-- a line that ended
pub lines_of-ended : (line rest : List ℕ) → HasNoFeed line → lines_of (line ++ 10 ∷ rest) ≡ (line ++ 10 ∷ []) ∷ lines_of rest
unfolding lines_of
lines_of-ended [] rest h = refl
lines_of-ended (b ∷ line) rest h =
    let parts = neither (b == 10) (list_any (λ c. c == 10) line) h in
    rw (parts.0, lines_of-ended line rest parts.1) refl

-- a last line that did not
pub lines_of-last : (b : ℕ) (line : List ℕ) → HasNoFeed (b ∷ line) → lines_of (b ∷ line) ≡ (b ∷ line) ∷ []
unfolding lines_of
lines_of-last b [] h = let parts = neither (b == 10) false h in rw parts.0 refl
lines_of-last b (d ∷ line) h =
    let parts = neither (b == 10) (list_any (λ c. c == 10) (d ∷ line)) h in
    rw (parts.0, lines_of-last d line parts.1) refl

pub before_feed-ended : (line : List ℕ) → HasNoFeed line → before_feed (line ++ 10 ∷ []) ≡ line
before_feed-ended [] h = refl
before_feed-ended (b ∷ line) h =
    let parts = neither (b == 10) (list_any (λ c. c == 10) line) h in
    rw (parts.0, before_feed-ended line parts.1) refl

pub before_feed-last : (line : List ℕ) → HasNoFeed line → before_feed line ≡ line
before_feed-last [] h = refl
before_feed-last (b ∷ line) h =
    let parts = neither (b == 10) (list_any (λ c. c == 10) line) h in
    rw (parts.0, before_feed-last line parts.1) refl

any_feed : (line : List ℕ) → list_any (λ b. b == 10) (line ++ 10 ∷ []) ≡ true
any_feed [] = refl
any_feed (b ∷ line) = rw (any_feed line) (or_true (b == 10))

pub content_of-ended : (line : List ℕ) → HasNoFeed line → content_of (line ++ 10 ∷ []) ≡ content_at true line
content_of-ended line h = rw (any_feed line) (ap strip_carriage_return (before_feed-ended line h))

pub content_of-last : (line : List ℕ) → HasNoFeed line → content_of line ≡ content_at false line
content_of-last line h = rw h refl

pub any_pushed : (line : List ℕ) (byte : ℕ) → HasNoFeed line → byte ≢ 10 → HasNoFeed (line ++ byte ∷ [])
any_pushed [] byte h other = elim (eqb_tells byte 10) [ inl same ↦ absurd (other same.1) | inr apart ↦ rw apart.0 refl ]
any_pushed (b ∷ line) byte h other =
    let parts = neither (b == 10) (list_any (λ c. c == 10) line) h in
    rw (parts.0, any_pushed line byte parts.1 other) refl

-- the line that is read goes on by a byte that is no line feed
pub reads_on : (whole : Told (Option State)) (byte : ℕ) (rest : List ℕ) (script : Script) (old now : Option (List ℕ)) (line : List ℕ)
    → byte ≢ 10 → line ≡ script.line ++ byte ∷ [] → Reads whole (byte ∷ rest) script old now → Reads whole rest (record script { line = line }) old now
reads_on whole byte rest script old now line other grows reads =
    let regroup : script.line ++ byte ∷ rest ≡ line ++ rest = sym (append_assoc script.line (byte ∷ []) rest) ∙ ap (λ (l : List ℕ). l ++ rest) (sym grows) in
    record {
      part = ap (λ (l : List ℕ). list_any (λ b. b == 10) l) grows ∙ any_pushed script.line byte reads.part other;
      stands = record {
        printed = reads.stands.printed;
        same = reads.stands.same ∙ ap (λ (l : List ℕ). after_text reads.stands.printed (told script_line script.world (script.lines + 1) (lines_of l))) regroup;
        written = reads.stands.written;
      };
    }

-- the line that is read ends
pub ends_line : (whole : Told (Option State)) (rest : List ℕ) (script : Script) (old now : Option (List ℕ)) → Reads whole (10 ∷ rest) script old now
    → Stands whole ((script.line ++ 10 ∷ []) ∷ lines_of rest) script old now
ends_line whole rest script old now reads = subst (λ (ahead : List (List ℕ)). Stands whole ahead script old now) (lines_of-ended script.line rest reads.part) reads.stands

-- the last line ends
pub ends_last : (whole : Told (Option State)) (script : Script) (old now : Option (List ℕ)) → script.line ≢ [] → Reads whole [] script old now → Stands whole (script.line ∷ []) script old now
ends_last whole script old now some reads = subst (λ (ahead : List (List ℕ)). Stands whole ahead script old now) (last script.line some reads.part) reads.stands
  where
    last : (line : List ℕ) → line ≢ [] → HasNoFeed line → lines_of (line ++ []) ≡ line ∷ []
    last [] some part = absurd (some refl)
    last (b ∷ line) some part = ap lines_of (append-nil (b ∷ line)) ∙ lines_of-last b line part

-- a first line that has begun is at least as long as what has come of it
begins : (b : ℕ) (xs rest : List ℕ) → HasNoFeed (b ∷ xs)
    → (raw : List ℕ) × (after : List (List ℕ)) × (lines_of (b ∷ (xs ++ rest)) ≡ raw ∷ after) × (length (b ∷ xs) ≤ length (before_feed raw))
unfolding lines_of
begins b [] rest h = let parts = neither (b == 10) false h in first parts.0 (lines_of rest)
  where
    first : (b == 10) ≡ false → (ls : List (List ℕ))
        → (raw : List ℕ) × (after : List (List ℕ)) × ((if b == 10 then (10 ∷ []) ∷ ls else onto_first b ls) ≡ raw ∷ after) × (1 ≤ length (before_feed raw))
    first e [] = (b ∷ [], [], rw e refl, rw e (omega arith))
    first e (l ∷ ls) = (b ∷ l, ls, rw e refl, rw e (omega arith))
begins b (d ∷ xs) rest h =
    let parts = neither (b == 10) (list_any (λ c. c == 10) (d ∷ xs)) h in
    more parts.0 (begins d xs rest parts.1)
  where
    more : (b == 10) ≡ false → (raw : List ℕ) × (after : List (List ℕ)) × (lines_of (d ∷ (xs ++ rest)) ≡ raw ∷ after) × (length (d ∷ xs) ≤ length (before_feed raw))
        → (raw : List ℕ) × (after : List (List ℕ)) × (lines_of (b ∷ (d ∷ (xs ++ rest))) ≡ raw ∷ after) × (length (b ∷ d ∷ xs) ≤ length (before_feed raw))
    more e (raw, after, is, le) = (b ∷ raw, after, rw (e, is) refl, rw e (omega arith))

-- the line that is read is too long with this byte
pub grows_too_long : (whole : Told (Option State)) (byte : ℕ) (rest : List ℕ) (script : Script) (old now : Option (List ℕ)) → byte ≢ 10 → length script.line ≡ length_limit
    → Reads whole (byte ∷ rest) script old now
    → (raw : List ℕ) × (after : List (List ℕ)) × Stands whole (raw ∷ after) script old now × (length_limit < length (before_feed raw))
grows_too_long whole byte rest script old now other full reads = found (script.line ++ byte ∷ []) (any_pushed script.line byte reads.part other) (omega (arith, length-append script.line (byte ∷ []))) (sym (append_assoc script.line (byte ∷ []) rest))
  where
    found : (line : List ℕ) → HasNoFeed line → length_limit < length line → script.line ++ byte ∷ rest ≡ line ++ rest
        → (raw : List ℕ) × (after : List (List ℕ)) × Stands whole (raw ∷ after) script old now × (length_limit < length (before_feed raw))
    found [] h long is = absurd (omega arith)
    found (b ∷ line) h long is = stands_at (begins b line rest h)
      where
        stands_at : (raw : List ℕ) × (after : List (List ℕ)) × (lines_of (b ∷ (line ++ rest)) ≡ raw ∷ after) × (length (b ∷ line) ≤ length (before_feed raw))
            → (raw : List ℕ) × (after : List (List ℕ)) × Stands whole (raw ∷ after) script old now × (length_limit < length (before_feed raw))
        stands_at (raw, after, lines, le) =
            (raw, after, subst (λ (ahead : List (List ℕ)). Stands whole ahead script old now) (ap lines_of is ∙ lines) reads.stands, omega arith)

-- after the end of a line nothing of the next one has come
pub after_line : (whole : Told (Option State)) (rest : List ℕ) (script : Script) (old now : Option (List ℕ)) (r : Result (Unit {0}) Status) (Q : Status → Type 0)
    → MatchResult r (λ _. Stands whole (lines_of rest) script old now) Q → OnOk r (script.line ≡ []) → MatchResult r (λ _. Reads whole rest script old now) Q
after_line whole rest script old now (Ok u) Q stands empty =
    record {
      part = ap (λ (l : List ℕ). list_any (λ b. b == 10) l) empty;
      stands = subst (λ (l : List ℕ). Stands whole (lines_of (l ++ rest)) script old now) (sym empty) stands;
    }
after_line whole rest script old now (Err e) Q stopped empty = stopped

pub is_done_at_once : (whole : Told (Option State)) (script : Script) (old now : Option (List ℕ)) → script.line ≡ [] → Reads whole [] script old now → Outcome whole status.Done old now
unfolding lines_of
is_done_at_once whole script old now empty reads = is_done whole script old now (subst (λ (l : List ℕ). Stands whole (lines_of (l ++ [])) script old now) empty reads.stands)

-- the byte at a place of a piece, and the end of a piece
pub reads_at : (whole : Told (Option State)) (piece : List ℕ) (i : ℕ) (rest : List ℕ) (script : Script) (old now : Option (List ℕ)) → i < length piece
    → Reads whole (drop i piece ++ rest) script old now → Reads whole (get_or piece i 0 ∷ (drop (i + 1) piece ++ rest)) script old now
reads_at whole piece i rest script old now lt reads =
    let e : drop i piece ≡ get_or piece i 0 ∷ drop (i + 1) piece = rw (add-one, drop-cons piece i 0 lt) refl in
    subst (λ (l : List ℕ). Reads whole (l ++ rest) script old now) e reads

pub reads_all : (whole : Told (Option State)) (piece : List ℕ) (i : ℕ) (rest : List ℕ) (script : Script) (old now : Option (List ℕ)) → length piece ≤ i
    → Reads whole (drop i piece ++ rest) script old now → Reads whole rest script old now
reads_all whole piece i rest script old now le reads =
    subst (λ (l : List ℕ). Reads whole (l ++ rest) script old now) (drop_all i piece le) reads
