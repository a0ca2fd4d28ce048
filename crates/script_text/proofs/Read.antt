-- A text that spells a line is read as it.
use Rattle.std.proofs.Common.{◌≡◌, ◌≢◌, ℕ, ◌-◌, ◌^◌, ◌<◌, true, false, List, [], ◌∷◌, Option, Some, refl, ap, ◌∙◌, arith}
use Rattle.std.specs.Prelude.{option_map, option_and_then, codes, length, ◌==◌}
use Rattle.std.specs.List.{list_all, join_with_byte}
use Rattle.std.specs.Result.{result_ok}
use Rattle.std.specs.Fmt.{decimal}
use Rattle.std.proofs.lemmas.Bool.{cond-true, eq-eqb}
use Rattle.hex.proofs.HexLemmas.{decode_of-ok}
use Rattle.script_text.specs.declared.line.Line.{Line}
use Rattle.script_text.specs.declared.line.Line.TheVariants.{Nothing, Nodes, Clock, Connect, Input, StartWrite, Commit, Settle, Abort, Acquire, Release, Offer, Deliver, Pump, Restart, Fail, Vector, Dump, Audit}
use Rattle.script_text.specs.Words.{bytes_of, number_in}
use Rattle.script_text.specs.Line.{line_of, line_by_words, node_of, connection_of, ticket_of, two_nodes}
use Rattle.script_text.specs.Spelling.{IsFromTo, IsNode, IsConnection, IsTicket, SpellsBytes, DoesNothing, Spells}
use Rattle.script_text.proofs.Numerals.{number_in-decimal}
use Rattle.script_text.proofs.Cuts.{is_word, decimal-word, bytes-word, one-word, more-words, line-joined}

-- ---- the words

fits : (low high n : ℕ) → high < 2 ^ 64 → IsFromTo low high n → n < 2 ^ 64
fits low high n h r = omega (arith, r.most, h)

word : (low high n : ℕ) → high < 2 ^ 64 → IsFromTo low high n → is_word (decimal n) ≡ true
word low high n h r = decimal-word n (fits low high n h r)

node : (n : ℕ) → IsNode n → node_of (decimal n) ≡ Some n
node n r = number_in-decimal 1 8 n (omega arith) r

connection : (c : ℕ) → IsConnection c → connection_of (decimal c) ≡ Some c
connection c r = number_in-decimal 1 64 c (omega arith) r

ticket : (k : ℕ) → IsTicket k → ticket_of (decimal k) ≡ Some k
ticket k r = number_in-decimal 1 1000000 k (omega arith) r

one : (low high n : ℕ) → high < 2 ^ 64 → IsFromTo low high n → list_all is_word (decimal n ∷ []) ≡ true
one low high n h r = one-word (decimal n) (word low high n h r)

pair : (a b : ℕ) → IsNode a → IsNode b → two_nodes (decimal a ∷ decimal b ∷ []) ≡ Some (a, b)
pair a b ra rb =
    ap (λ (o : Option ℕ). option_and_then (λ x. option_map (λ y. (x, y)) (node_of (decimal b))) o) (node a ra)
    ∙ ap (λ (o : Option ℕ). option_map (λ y. (a, y)) o) (node b rb)

two : (low high n ml mh m : ℕ) → high < 2 ^ 64 → mh < 2 ^ 64 → IsFromTo low high n → IsFromTo ml mh m → list_all is_word (decimal n ∷ decimal m ∷ []) ≡ true
two low high n ml mh m h k r s = more-words (decimal n) (decimal m ∷ []) (word low high n h r) (one ml mh m k s)

bytes : (digits bytes : List ℕ) → SpellsBytes digits bytes → bytes_of digits ≡ Some bytes
bytes [] bs s = let len = (decode_of-ok [] bs s.spelled).2 in absurd (no-bytes bs s.some (omega (arith, len)))
  where
    no-bytes : (bs : List ℕ) → bs ≢ [] → length bs ≡ 0 → ⊥
    no-bytes [] n e = n refl
    no-bytes (b ∷ bs) n e = omega (arith, e)
bytes (d ∷ ds) bs s = ap result_ok s.spelled

-- ---- lines

nothing : (text : List ℕ) → DoesNothing text → line_of text ≡ Some Nothing
nothing [] s = refl
nothing (b ∷ text) s = cond-true (b == 35) (Some Nothing) _ (eq-eqb b 35 s)

one-node : (b : ℕ) (name : List ℕ) (make : ℕ → Line) (n : ℕ) → IsNode n → (b == 35) ≡ false → is_word (b ∷ name) ≡ true
    → line_by_words ((b ∷ name) ∷ decimal n ∷ []) ≡ option_map make (node_of (decimal n)) → line_of (join_with_byte 32 ((b ∷ name) ∷ decimal n ∷ [])) ≡ Some (make n)
one-node b name make n r other plain by = line-joined b name (decimal n ∷ []) other plain (one 1 8 n (omega arith) r) ∙ by ∙ ap (option_map make) (node n r)

one-ticket : (b : ℕ) (name : List ℕ) (make : ℕ → Line) (k : ℕ) → IsTicket k → (b == 35) ≡ false → is_word (b ∷ name) ≡ true
    → line_by_words ((b ∷ name) ∷ decimal k ∷ []) ≡ option_map make (ticket_of (decimal k)) → line_of (join_with_byte 32 ((b ∷ name) ∷ decimal k ∷ [])) ≡ Some (make k)
one-ticket b name make k r other plain by = line-joined b name (decimal k ∷ []) other plain (one 1 1000000 k (omega arith) r) ∙ by ∙ ap (option_map make) (ticket k r)

two-nodes : (n : ℕ) (name : List ℕ) (make : ℕ → ℕ → Line) (a b : ℕ) → IsNode a × IsNode b → (n == 35) ≡ false → is_word (n ∷ name) ≡ true
    → line_by_words ((n ∷ name) ∷ decimal a ∷ decimal b ∷ []) ≡ option_map (λ (p : ℕ × ℕ). make p.0 p.1) (two_nodes (decimal a ∷ decimal b ∷ []))
    → line_of (join_with_byte 32 ((n ∷ name) ∷ decimal a ∷ decimal b ∷ [])) ≡ Some (make a b)
two-nodes n name make a b r other plain by =
    line-joined n name (decimal a ∷ decimal b ∷ []) other plain (two 1 8 a 1 8 b (omega arith) (omega arith) r.0 r.1)
    ∙ by
    ∙ ap (option_map (λ (p : ℕ × ℕ). make p.0 p.1)) (pair a b r.0 r.1)

clock : (time : ℕ) → IsFromTo 0 4294967295 time → line_of (join_with_byte 32 (codes "clock" ∷ decimal time ∷ [])) ≡ Some (Clock time)
clock time r =
    line-joined 99 (codes "lock") (decimal time ∷ []) refl refl (one 0 4294967295 time (omega arith) r)
    ∙ ap (option_map Clock) (number_in-decimal 0 4294967295 time (omega arith) r)

connect : (c n : ℕ) → IsConnection c → IsNode n → line_of (join_with_byte 32 (codes "open" ∷ decimal c ∷ decimal n ∷ [])) ≡ Some (Connect c n)
connect c n rc rn =
    line-joined 111 (codes "pen") (decimal c ∷ decimal n ∷ []) refl refl (two 1 64 c 1 8 n (omega arith) (omega arith) rc rn)
    ∙ ap (λ (o : Option ℕ). option_and_then (λ c. option_map (Connect c) (node_of (decimal n))) o) (connection c rc)
    ∙ ap (option_map (Connect c)) (node n rn)

deliver : (b u : ℕ) → IsNode b → IsFromTo 0 (2 ^ 64 - 1) u → line_of (join_with_byte 32 (codes "deliver" ∷ decimal b ∷ decimal u ∷ [])) ≡ Some (Deliver b u)
deliver b u rb ru =
    line-joined 100 (codes "eliver") (decimal b ∷ decimal u ∷ []) refl refl (two 1 8 b 0 (2 ^ 64 - 1) u (omega arith) (omega arith) rb ru)
    ∙ ap (λ (o : Option ℕ). option_and_then (λ b. option_map (Deliver b) (number_in 0 (2 ^ 64 - 1) (decimal u))) o) (node b rb)
    ∙ ap (option_map (Deliver b)) (number_in-decimal 0 (2 ^ 64 - 1) u (omega arith) ru)

fail : (n j : ℕ) → IsNode n → IsFromTo 1 1000000 j → line_of (join_with_byte 32 (codes "fail" ∷ decimal n ∷ decimal j ∷ [])) ≡ Some (Fail n j)
fail n j rn rj =
    line-joined 102 (codes "ail") (decimal n ∷ decimal j ∷ []) refl refl (two 1 8 n 1 1000000 j (omega arith) (omega arith) rn rj)
    ∙ ap (λ (o : Option ℕ). option_and_then (λ n. option_map (Fail n) (number_in 1 1000000 (decimal j))) o) (node n rn)
    ∙ ap (option_map (Fail n)) (number_in-decimal 1 1000000 j (omega arith) rj)

input : (c : ℕ) (digits bs : List ℕ) → IsConnection c → SpellsBytes digits bs → line_of (join_with_byte 32 (codes "in" ∷ decimal c ∷ digits ∷ [])) ≡ Some (Input c bs)
input c digits bs rc s =
    line-joined 105 (codes "n") (decimal c ∷ digits ∷ []) refl refl (more-words (decimal c) (digits ∷ []) (word 1 64 c (omega arith) rc) (one-word digits (bytes-word digits bs s)))
    ∙ ap (λ (o : Option ℕ). option_and_then (λ c. option_map (Input c) (bytes_of digits)) o) (connection c rc)
    ∙ ap (option_map (Input c)) (bytes digits bs s)

start : (k c : ℕ) (digits bs : List ℕ) → IsTicket k → IsConnection c → SpellsBytes digits bs
    → line_of (join_with_byte 32 (codes "start" ∷ decimal k ∷ decimal c ∷ digits ∷ [])) ≡ Some (StartWrite k c bs)
start k c digits bs rk rc s =
    line-joined 115 (codes "tart") (decimal k ∷ decimal c ∷ digits ∷ []) refl refl
    (more-words (decimal k) (decimal c ∷ digits ∷ []) (word 1 1000000 k (omega arith) rk)
    (more-words (decimal c) (digits ∷ []) (word 1 64 c (omega arith) rc) (one-word digits (bytes-word digits bs s))))
    ∙ ap (λ (o : Option ℕ). option_and_then (λ k. option_and_then (λ c. option_map (StartWrite k c) (bytes_of digits)) (connection_of (decimal c))) o) (ticket k rk)
    ∙ ap (λ (o : Option ℕ). option_and_then (λ c. option_map (StartWrite k c) (bytes_of digits)) o) (connection c rc)
    ∙ ap (option_map (StartWrite k c)) (bytes digits bs s)

pub spelled-read : (text : List ℕ) (line : Line) → Spells text line → line_of text ≡ Some line
spelled-read text Nothing s = nothing text s
spelled-read text (Nodes n) (digits, s) = ap line_of s.words ∙ one-node 110 (codes "odes") Nodes n s.in_range refl refl refl
spelled-read text (Clock time) (digits, s) = ap line_of s.words ∙ clock time s.in_range
spelled-read text (Connect c n) (digits, s) = ap line_of s.words ∙ connect c n s.in_range.0 s.in_range.1
spelled-read text (Input c bs) (digits, s) = ap line_of s.words ∙ input c digits bs s.in_range s.bytes
spelled-read text (StartWrite k c bs) (digits, s) = ap line_of s.words ∙ start k c digits bs s.in_range.0 s.in_range.1 s.bytes
spelled-read text (Commit k) (digits, s) = ap line_of s.words ∙ one-ticket 99 (codes "ommit") Commit k s.in_range refl refl refl
spelled-read text (Settle k) (digits, s) = ap line_of s.words ∙ one-ticket 115 (codes "ettle") Settle k s.in_range refl refl refl
spelled-read text (Abort k) (digits, s) = ap line_of s.words ∙ one-ticket 97 (codes "bort") Abort k s.in_range refl refl refl
spelled-read text (Acquire a b) (digits, s) = ap line_of s.words ∙ two-nodes 97 (codes "cquire") Acquire a b s.in_range refl refl refl
spelled-read text (Release a b) (digits, s) = ap line_of s.words ∙ two-nodes 114 (codes "elease") Release a b s.in_range refl refl refl
spelled-read text (Offer a b) (digits, s) = ap line_of s.words ∙ two-nodes 111 (codes "ffer") Offer a b s.in_range refl refl refl
spelled-read text (Deliver b u) (digits, s) = ap line_of s.words ∙ deliver b u s.in_range.0 s.in_range.1
spelled-read text (Pump a b) (digits, s) = ap line_of s.words ∙ two-nodes 112 (codes "ump") Pump a b s.in_range refl refl refl
spelled-read text (Restart n) (digits, s) = ap line_of s.words ∙ one-node 114 (codes "estart") Restart n s.in_range refl refl refl
spelled-read text (Fail n j) (digits, s) = ap line_of s.words ∙ fail n j s.in_range.0 s.in_range.1
spelled-read text (Vector n) (digits, s) = ap line_of s.words ∙ one-node 118 (codes "ector") Vector n s.in_range refl refl refl
spelled-read text (Dump n) (digits, s) = ap line_of s.words ∙ one-node 100 (codes "ump") Dump n s.in_range refl refl refl
spelled-read text (Audit n) (digits, s) = ap line_of s.words ∙ one-node 97 (codes "udit") Audit n s.in_range refl refl refl
