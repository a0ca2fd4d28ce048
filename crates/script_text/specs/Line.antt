-- The lines of the script, each by the words that it is written with.
use Rattle.std.specs.Prelude.{ℕ, ◌-◌, ◌^◌, ◌==◌, List, [], ◌∷◌, Option, Some, None, option_map, option_and_then, codes, bytes_eq, if◌then◌else◌}
use Rattle.script_text.specs.declared.line.Line.{Line}
use Rattle.script_text.specs.declared.line.Line.TheVariants.{Nothing, Nodes, Clock, Connect, Input, StartWrite, Commit, Settle, Abort, Acquire, Release, Offer, Deliver, Pump, Restart, Fail, Vector, Dump, Audit}
use Rattle.script_text.specs.Words.{words_of, number_in, bytes_of}

-- ---- what a word may be

abbrev pub node_of : List ℕ → Option ℕ
node_of = number_in 1 8

abbrev pub connection_of : List ℕ → Option ℕ
connection_of = number_in 1 64

abbrev pub ticket_of : List ℕ → Option ℕ
ticket_of = number_in 1 1000000

-- ---- what the words behind the first may be

abbrev pub one_node : List (List ℕ) → Option ℕ
one_node (n ∷ []) = node_of n
one_node words = None

abbrev pub two_nodes : List (List ℕ) → Option (ℕ × ℕ)
two_nodes (a ∷ b ∷ []) = option_and_then (λ a. option_map (λ b. (a, b)) (node_of b)) (node_of a)
two_nodes words = None

abbrev pub one_ticket : List (List ℕ) → Option ℕ
one_ticket (k ∷ []) = ticket_of k
one_ticket words = None

-- `clock T`
abbrev pub clock_line : List (List ℕ) → Option Line
clock_line (time ∷ []) = option_map Clock (number_in 0 4294967295 time)
clock_line words = None

-- `open C N`
abbrev pub connect_line : List (List ℕ) → Option Line
connect_line (c ∷ n ∷ []) = option_and_then (λ c. option_map (Connect c) (node_of n)) (connection_of c)
connect_line words = None

-- `in C HEX`
abbrev pub input_line : List (List ℕ) → Option Line
input_line (c ∷ bytes ∷ []) = option_and_then (λ c. option_map (Input c) (bytes_of bytes)) (connection_of c)
input_line words = None

-- `start K C HEX`
abbrev pub start_line : List (List ℕ) → Option Line
start_line (k ∷ c ∷ bytes ∷ []) =
    option_and_then (λ k. option_and_then (λ c. option_map (StartWrite k c) (bytes_of bytes)) (connection_of c)) (ticket_of k)
start_line words = None

-- `deliver B U`
abbrev pub deliver_line : List (List ℕ) → Option Line
deliver_line (b ∷ u ∷ []) = option_and_then (λ b. option_map (Deliver b) (number_in 0 (2 ^ 64 - 1) u)) (node_of b)
deliver_line words = None

-- `fail N J`
abbrev pub fail_line : List (List ℕ) → Option Line
fail_line (n ∷ j ∷ []) = option_and_then (λ n. option_map (Fail n) (number_in 1 1000000 j)) (node_of n)
fail_line words = None

-- ---- the first word names the form

-- the lines on two nodes
abbrev pub session_line : List ℕ → List (List ℕ) → Option Line
session_line name words =
    if bytes_eq name (codes "deliver") then deliver_line words
    else if bytes_eq name (codes "acquire") then option_map (λ (p : ℕ × ℕ). Acquire p.0 p.1) (two_nodes words)
    else if bytes_eq name (codes "release") then option_map (λ (p : ℕ × ℕ). Release p.0 p.1) (two_nodes words)
    else if bytes_eq name (codes "offer") then option_map (λ (p : ℕ × ℕ). Offer p.0 p.1) (two_nodes words)
    else if bytes_eq name (codes "pump") then option_map (λ (p : ℕ × ℕ). Pump p.0 p.1) (two_nodes words)
    else None

-- the lines on a ticket, and then those on two nodes
abbrev pub ticket_line : List ℕ → List (List ℕ) → Option Line
ticket_line name words =
    if bytes_eq name (codes "commit") then option_map Commit (one_ticket words)
    else if bytes_eq name (codes "settle") then option_map Settle (one_ticket words)
    else if bytes_eq name (codes "abort") then option_map Abort (one_ticket words)
    else session_line name words

-- the lines without bytes
abbrev pub plain_line : List ℕ → List (List ℕ) → Option Line
plain_line name words =
    if bytes_eq name (codes "nodes") then option_map Nodes (one_node words)
    else if bytes_eq name (codes "clock") then clock_line words
    else if bytes_eq name (codes "open") then connect_line words
    else if bytes_eq name (codes "restart") then option_map Restart (one_node words)
    else if bytes_eq name (codes "fail") then fail_line words
    else if bytes_eq name (codes "vector") then option_map Vector (one_node words)
    else if bytes_eq name (codes "dump") then option_map Dump (one_node words)
    else if bytes_eq name (codes "audit") then option_map Audit (one_node words)
    else ticket_line name words

abbrev pub line_named : List ℕ → List (List ℕ) → Option Line
line_named name words =
    if bytes_eq name (codes "in") then input_line words
    else if bytes_eq name (codes "start") then start_line words
    else plain_line name words

abbrev pub line_by_words : List (List ℕ) → Option Line
line_by_words [] = None
line_by_words (name ∷ words) = line_named name words

-- The line that a text is written as, if it has one of the forms. An empty text and one that begins with `#` do nothing.
abbrev pub line_of : List ℕ → Option Line
line_of [] = Some Nothing
line_of (b ∷ text) = if b == 35 then Some Nothing else line_by_words (words_of (b ∷ text))
