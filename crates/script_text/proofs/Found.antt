-- A text that is read as a line spells it.
use Rattle.std.proofs.Common.{◌≡◌, ◌≢◌, ℕ, ◌^◌, ◌-◌, Bool, true, cond, List, [], ◌∷◌, Option, Some, None, Result, Ok, Err, inl, inr, refl, sym, ap, subst, ◌∙◌, arith}
use Rattle.std.specs.Prelude.{option_map, option_and_then, codes, bytes_eq, length, ◌==◌}
use Rattle.std.specs.List.{join_with_byte}
use Rattle.std.specs.Result.{result_ok}
use Rattle.std.specs.Fmt.{decimal}
use Rattle.std.proofs.lemmas.Bool.{cases_Bool, cond-true, cond-false, eqb-true}
use Rattle.std.proofs.lemmas.Slice.Eq.{bytes_eq-Decides}
use Rattle.std.proofs.lemmas.List.Splits.{join_with_byte-slice_split}
use Rattle.hex.specs.Hex.{decode_of}
use Rattle.hex.proofs.HexLemmas.{decode_of-ok}
use Rattle.hex.specs.declared.error.FromHexError.{FromHexError}
use Rattle.script_text.specs.declared.line.Line.{Line}
use Rattle.script_text.specs.declared.line.Line.TheVariants.{Nothing, Nodes, Clock, Connect, Input, StartWrite, Commit, Settle, Abort, Acquire, Release, Offer, Deliver, Pump, Restart, Fail, Vector, Dump, Audit}
use Rattle.script_text.specs.Words.{words_of, bytes_of, number_in}
use Rattle.script_text.specs.Line.{line_of, line_by_words, plain_line, ticket_line, session_line, clock_line, connect_line, input_line, start_line, deliver_line, fail_line, node_of, connection_of, ticket_of, one_node, two_nodes, one_ticket}
use Rattle.script_text.specs.Spelling.{IsFromTo, IsNode, IsTicket, IsInRange, SpellsBytes, SpellsBytesOf, SpellsWith, line_words, Spells}
use Rattle.script_text.proofs.Numerals.{ReadNumber, number_in-some, some-same}

record Mapped {A B : Type 0} (f : A → B) (o : Option A) (y : B) : Type 0 where
  x : A
  from : o ≡ Some x
  to : f x ≡ y

mapped : {A B : Type 0} (f : A → B) (o : Option A) (y : B) → option_map f o ≡ Some y → Mapped f o y
mapped f None y e = cc
mapped f (Some x) y e = record { x = x; from = refl; to = some-same (f x) y e }

record Chained {A B : Type 0} (f : A → Option B) (o : Option A) (y : B) : Type 0 where
  x : A
  from : o ≡ Some x
  to : f x ≡ Some y

chained : {A B : Type 0} (f : A → Option B) (o : Option A) (y : B) → option_and_then f o ≡ Some y → Chained f o y
chained f None y e = cc
chained f (Some x) y e = record { x = x; from = refl; to = e }

choose : {P : Type 0} (b : Bool) (x y : Option Line) (line : Line) → cond b x y ≡ Some line → (b ≡ true → x ≡ Some line → P) → (y ≡ Some line → P) → P
choose b x y line e first later = elim (cases_Bool b) [ inl t ↦ first t (sym (cond-true b x y t) ∙ e) | inr f ↦ later (sym (cond-false b x y f) ∙ e) ]

-- the words are those of the line
record Found (ws : List (List ℕ)) (line : Line) : Type 0 where
  digits : List ℕ
  in_range : IsInRange line
  bytes : SpellsBytesOf digits line
  words : ws ≡ line_words digits line
  other : line ≢ Nothing

-- ---- the words behind the first

node : (w : List ℕ) (n : ℕ) → node_of w ≡ Some n → ReadNumber 1 8 n w
node w n e = number_in-some 1 8 n w (omega arith) e

connection : (w : List ℕ) (c : ℕ) → connection_of w ≡ Some c → ReadNumber 1 64 c w
connection w c e = number_in-some 1 64 c w (omega arith) e

ticket : (w : List ℕ) (k : ℕ) → ticket_of w ≡ Some k → ReadNumber 1 1000000 k w
ticket w k e = number_in-some 1 1000000 k w (omega arith) e

named : (name text : List ℕ) → bytes_eq name text ≡ true → name ≡ text
named name text e = (bytes_eq-Decides name text).0 e

one-node : (name text : List ℕ) (make : ℕ → Line) (ws : List (List ℕ)) (line : Line) → bytes_eq name text ≡ true → option_map make (one_node ws) ≡ Some line
    → ((n : ℕ) → IsNode n → Found (text ∷ decimal n ∷ []) (make n)) → Found (name ∷ ws) line
one-node name text make [] line b e found = cc
one-node name text make (w ∷ []) line b e found =
    let m = mapped make (node_of w) line e in
    let r = node w m.x m.from in
    let words : text ∷ decimal m.x ∷ [] ≡ name ∷ w ∷ [] = ap (λ v. v ∷ decimal m.x ∷ []) (sym (named name text b)) ∙ ap (λ v. name ∷ v ∷ []) (sym r.word) in
    subst (λ ws. Found ws line) words (subst (λ l. Found (text ∷ decimal m.x ∷ []) l) m.to (found m.x r.in_range))
one-node name text make (w ∷ v ∷ ws) line b e found = cc

one-ticket : (name text : List ℕ) (make : ℕ → Line) (ws : List (List ℕ)) (line : Line) → bytes_eq name text ≡ true → option_map make (one_ticket ws) ≡ Some line
    → ((k : ℕ) → IsTicket k → Found (text ∷ decimal k ∷ []) (make k)) → Found (name ∷ ws) line
one-ticket name text make [] line b e found = cc
one-ticket name text make (w ∷ []) line b e found =
    let m = mapped make (ticket_of w) line e in
    let r = ticket w m.x m.from in
    let words : text ∷ decimal m.x ∷ [] ≡ name ∷ w ∷ [] = ap (λ v. v ∷ decimal m.x ∷ []) (sym (named name text b)) ∙ ap (λ v. name ∷ v ∷ []) (sym r.word) in
    subst (λ ws. Found ws line) words (subst (λ l. Found (text ∷ decimal m.x ∷ []) l) m.to (found m.x r.in_range))
one-ticket name text make (w ∷ v ∷ ws) line b e found = cc

-- a name and two words that are read as two numbers
pair-words : (name text v w : List ℕ) (a b : ℕ) → bytes_eq name text ≡ true → v ≡ decimal a → w ≡ decimal b → text ∷ decimal a ∷ decimal b ∷ [] ≡ name ∷ v ∷ w ∷ []
pair-words name text v w a b n ea eb =
    ap (λ u. u ∷ decimal a ∷ decimal b ∷ []) (sym (named name text n)) ∙ ap (λ u. name ∷ u ∷ decimal b ∷ []) (sym ea) ∙ ap (λ u. name ∷ v ∷ u ∷ []) (sym eb)

two-numbers : (read : List ℕ → Option ℕ) (low high : ℕ) (tell : (w : List ℕ) (n : ℕ) → read w ≡ Some n → ReadNumber low high n w)
    → (read' : List ℕ → Option ℕ) (low' high' : ℕ) (tell' : (w : List ℕ) (n : ℕ) → read' w ≡ Some n → ReadNumber low' high' n w)
    → (name text v w : List ℕ) (make : ℕ → ℕ → Line) (line : Line) → bytes_eq name text ≡ true
    → option_and_then (λ a. option_map (make a) (read' w)) (read v) ≡ Some line
    → ((a b : ℕ) → IsFromTo low high a → IsFromTo low' high' b → Found (text ∷ decimal a ∷ decimal b ∷ []) (make a b)) → Found (name ∷ v ∷ w ∷ []) line
two-numbers read low high tell read' low' high' tell' name text v w make line n e found =
    let c = chained (λ a. option_map (make a) (read' w)) (read v) line e in
    let m = mapped (make c.x) (read' w) line c.to in
    let r = tell v c.x c.from in
    let s = tell' w m.x m.from in
    subst (λ ws. Found ws line) (pair-words name text v w c.x m.x n r.word s.word)
    (subst (λ l. Found (text ∷ decimal c.x ∷ decimal m.x ∷ []) l) m.to (found c.x m.x r.in_range s.in_range))

two-nodes : (name text : List ℕ) (make : ℕ → ℕ → Line) (ws : List (List ℕ)) (line : Line) → bytes_eq name text ≡ true
    → option_map (λ (p : ℕ × ℕ). make p.0 p.1) (two_nodes ws) ≡ Some line
    → ((a b : ℕ) → IsNode a → IsNode b → Found (text ∷ decimal a ∷ decimal b ∷ []) (make a b)) → Found (name ∷ ws) line
two-nodes name text make [] line n e found = cc
two-nodes name text make (v ∷ []) line n e found = cc
two-nodes name text make (v ∷ w ∷ []) line n e found =
    let m = mapped (λ (p : ℕ × ℕ). make p.0 p.1) (two_nodes (v ∷ w ∷ [])) line e in
    let c = chained (λ a. option_map (λ b. (a, b)) (node_of w)) (node_of v) m.x m.from in
    let q = mapped (λ b. (c.x, b)) (node_of w) m.x c.to in
    let r = node v c.x c.from in
    let s = node w q.x q.from in
    let same : make c.x q.x ≡ line = ap (λ (p : ℕ × ℕ). make p.0 p.1) q.to ∙ m.to in
    subst (λ ws. Found ws line) (pair-words name text v w c.x q.x n r.word s.word)
    (subst (λ l. Found (text ∷ decimal c.x ∷ decimal q.x ∷ []) l) same (found c.x q.x r.in_range s.in_range))
two-nodes name text make (v ∷ w ∷ u ∷ ws) line n e found = cc

clock : (name : List ℕ) (ws : List (List ℕ)) (line : Line) → bytes_eq name (codes "clock") ≡ true → clock_line ws ≡ Some line → Found (name ∷ ws) line
clock name [] line n e = cc
clock name (w ∷ []) line n e =
    let m = mapped Clock (number_in 0 4294967295 w) line e in
    let r = number_in-some 0 4294967295 m.x w (omega arith) m.from in
    let words : codes "clock" ∷ decimal m.x ∷ [] ≡ name ∷ w ∷ [] = ap (λ v. v ∷ decimal m.x ∷ []) (sym (named name (codes "clock") n)) ∙ ap (λ v. name ∷ v ∷ []) (sym r.word) in
    subst (λ ws. Found ws line) words
    (subst (λ l. Found (codes "clock" ∷ decimal m.x ∷ []) l) m.to (record { digits = []; in_range = r.in_range; bytes = refl; words = refl; other = λ z. cc }))
clock name (w ∷ v ∷ ws) line n e = cc

connect : (name : List ℕ) (ws : List (List ℕ)) (line : Line) → bytes_eq name (codes "open") ≡ true → connect_line ws ≡ Some line → Found (name ∷ ws) line
connect name [] line n e = cc
connect name (v ∷ []) line n e = cc
connect name (v ∷ w ∷ []) line n e =
    two-numbers connection_of 1 64 connection node_of 1 8 node name (codes "open") v w Connect line n e
    (λ c m r s. record { digits = []; in_range = (r, s); bytes = refl; words = refl; other = λ z. cc })
connect name (v ∷ w ∷ u ∷ ws) line n e = cc

deliver : (name : List ℕ) (ws : List (List ℕ)) (line : Line) → bytes_eq name (codes "deliver") ≡ true → deliver_line ws ≡ Some line → Found (name ∷ ws) line
deliver name [] line n e = cc
deliver name (v ∷ []) line n e = cc
deliver name (v ∷ w ∷ []) line n e =
    two-numbers node_of 1 8 node (number_in 0 (2 ^ 64 - 1)) 0 (2 ^ 64 - 1) (λ w u. number_in-some 0 (2 ^ 64 - 1) u w (omega arith)) name (codes "deliver") v w Deliver line n e
    (λ b u r s. record { digits = []; in_range = (r, s); bytes = refl; words = refl; other = λ z. cc })
deliver name (v ∷ w ∷ u ∷ ws) line n e = cc

fail : (name : List ℕ) (ws : List (List ℕ)) (line : Line) → bytes_eq name (codes "fail") ≡ true → fail_line ws ≡ Some line → Found (name ∷ ws) line
fail name [] line n e = cc
fail name (v ∷ []) line n e = cc
fail name (v ∷ w ∷ []) line n e =
    two-numbers node_of 1 8 node (number_in 1 1000000) 1 1000000 (λ w j. number_in-some 1 1000000 j w (omega arith)) name (codes "fail") v w Fail line n e
    (λ m j r s. record { digits = []; in_range = (r, s); bytes = refl; words = refl; other = λ z. cc })
fail name (v ∷ w ∷ u ∷ ws) line n e = cc

-- ---- bytes

read-bytes : (r : Result (List ℕ) FromHexError) (bytes : List ℕ) → result_ok r ≡ Some bytes → r ≡ Ok bytes
read-bytes (Ok bs) bytes e = ap Ok (some-same bs bytes e)
read-bytes (Err f) bytes e = cc

bytes-found : (digits bytes : List ℕ) → bytes_of digits ≡ Some bytes → SpellsBytes digits bytes
bytes-found [] bytes e = cc
bytes-found (d ∷ ds) bytes e =
    let spelled = read-bytes (decode_of (d ∷ ds)) bytes e in
    let len = (decode_of-ok (d ∷ ds) bytes spelled).2 in
    record { some = λ z. let none : length bytes ≡ 0 = ap length z in omega (arith, len, none); spelled = spelled }

input : (name : List ℕ) (ws : List (List ℕ)) (line : Line) → bytes_eq name (codes "in") ≡ true → input_line ws ≡ Some line → Found (name ∷ ws) line
input name [] line n e = cc
input name (v ∷ []) line n e = cc
input name (v ∷ w ∷ []) line n e =
    let c = chained (λ c. option_map (Input c) (bytes_of w)) (connection_of v) line e in
    let m = mapped (Input c.x) (bytes_of w) line c.to in
    let r = connection v c.x c.from in
    let words : codes "in" ∷ decimal c.x ∷ w ∷ [] ≡ name ∷ v ∷ w ∷ [] = ap (λ u. u ∷ decimal c.x ∷ w ∷ []) (sym (named name (codes "in") n)) ∙ ap (λ u. name ∷ u ∷ w ∷ []) (sym r.word) in
    subst (λ ws. Found ws line) words
    (subst (λ l. Found (codes "in" ∷ decimal c.x ∷ w ∷ []) l) m.to
    (record { digits = w; in_range = r.in_range; bytes = bytes-found w m.x m.from; words = refl; other = λ z. cc }))
input name (v ∷ w ∷ u ∷ ws) line n e = cc

start : (name : List ℕ) (ws : List (List ℕ)) (line : Line) → bytes_eq name (codes "start") ≡ true → start_line ws ≡ Some line → Found (name ∷ ws) line
start name [] line n e = cc
start name (u ∷ []) line n e = cc
start name (u ∷ v ∷ []) line n e = cc
start name (u ∷ v ∷ w ∷ []) line n e =
    let k = chained (λ k. option_and_then (λ c. option_map (StartWrite k c) (bytes_of w)) (connection_of v)) (ticket_of u) line e in
    let c = chained (λ c. option_map (StartWrite k.x c) (bytes_of w)) (connection_of v) line k.to in
    let m = mapped (StartWrite k.x c.x) (bytes_of w) line c.to in
    let q = ticket u k.x k.from in
    let r = connection v c.x c.from in
    let words : codes "start" ∷ decimal k.x ∷ decimal c.x ∷ w ∷ [] ≡ name ∷ u ∷ v ∷ w ∷ [] =
    ap (λ t. t ∷ decimal k.x ∷ decimal c.x ∷ w ∷ []) (sym (named name (codes "start") n))
    ∙ ap (λ t. name ∷ t ∷ decimal c.x ∷ w ∷ []) (sym q.word)
    ∙ ap (λ t. name ∷ u ∷ t ∷ w ∷ []) (sym r.word)
    in
    subst (λ ws. Found ws line) words
    (subst (λ l. Found (codes "start" ∷ decimal k.x ∷ decimal c.x ∷ w ∷ []) l) m.to
    (record { digits = w; in_range = (q.in_range, r.in_range); bytes = bytes-found w m.x m.from; words = refl; other = λ z. cc }))
start name (u ∷ v ∷ w ∷ t ∷ ws) line n e = cc

-- ---- the first word

session : (name : List ℕ) (ws : List (List ℕ)) (line : Line) → session_line name ws ≡ Some line → Found (name ∷ ws) line
session name ws line e =
    choose (bytes_eq name (codes "deliver")) _ _ line e (deliver name ws line) (λ e.
    choose (bytes_eq name (codes "acquire")) _ _ line e (λ n x. two-nodes name (codes "acquire") Acquire ws line n x (λ a b r s. record { digits = []; in_range = (r, s); bytes = refl; words = refl; other = λ z. cc })) (λ e.
    choose (bytes_eq name (codes "release")) _ _ line e (λ n x. two-nodes name (codes "release") Release ws line n x (λ a b r s. record { digits = []; in_range = (r, s); bytes = refl; words = refl; other = λ z. cc })) (λ e.
    choose (bytes_eq name (codes "offer")) _ _ line e (λ n x. two-nodes name (codes "offer") Offer ws line n x (λ a b r s. record { digits = []; in_range = (r, s); bytes = refl; words = refl; other = λ z. cc })) (λ e.
    choose (bytes_eq name (codes "pump")) _ _ line e (λ n x. two-nodes name (codes "pump") Pump ws line n x (λ a b r s. record { digits = []; in_range = (r, s); bytes = refl; words = refl; other = λ z. cc })) (λ e. cc)))))

tickets : (name : List ℕ) (ws : List (List ℕ)) (line : Line) → ticket_line name ws ≡ Some line → Found (name ∷ ws) line
tickets name ws line e =
    choose (bytes_eq name (codes "commit")) _ _ line e (λ n x. one-ticket name (codes "commit") Commit ws line n x (λ k r. record { digits = []; in_range = r; bytes = refl; words = refl; other = λ z. cc })) (λ e.
    choose (bytes_eq name (codes "settle")) _ _ line e (λ n x. one-ticket name (codes "settle") Settle ws line n x (λ k r. record { digits = []; in_range = r; bytes = refl; words = refl; other = λ z. cc })) (λ e.
    choose (bytes_eq name (codes "abort")) _ _ line e (λ n x. one-ticket name (codes "abort") Abort ws line n x (λ k r. record { digits = []; in_range = r; bytes = refl; words = refl; other = λ z. cc })) (session name ws line)))

plain : (name : List ℕ) (ws : List (List ℕ)) (line : Line) → plain_line name ws ≡ Some line → Found (name ∷ ws) line
plain name ws line e =
    choose (bytes_eq name (codes "nodes")) _ _ line e (λ n x. one-node name (codes "nodes") Nodes ws line n x (λ m r. record { digits = []; in_range = r; bytes = refl; words = refl; other = λ z. cc })) (λ e.
    choose (bytes_eq name (codes "clock")) _ _ line e (clock name ws line) (λ e.
    choose (bytes_eq name (codes "open")) _ _ line e (connect name ws line) (λ e.
    choose (bytes_eq name (codes "restart")) _ _ line e (λ n x. one-node name (codes "restart") Restart ws line n x (λ m r. record { digits = []; in_range = r; bytes = refl; words = refl; other = λ z. cc })) (λ e.
    choose (bytes_eq name (codes "fail")) _ _ line e (fail name ws line) (λ e.
    choose (bytes_eq name (codes "vector")) _ _ line e (λ n x. one-node name (codes "vector") Vector ws line n x (λ m r. record { digits = []; in_range = r; bytes = refl; words = refl; other = λ z. cc })) (λ e.
    choose (bytes_eq name (codes "dump")) _ _ line e (λ n x. one-node name (codes "dump") Dump ws line n x (λ m r. record { digits = []; in_range = r; bytes = refl; words = refl; other = λ z. cc })) (λ e.
    choose (bytes_eq name (codes "audit")) _ _ line e (λ n x. one-node name (codes "audit") Audit ws line n x (λ m r. record { digits = []; in_range = r; bytes = refl; words = refl; other = λ z. cc })) (tickets name ws line))))))))

by-words : (ws : List (List ℕ)) (line : Line) → line_by_words ws ≡ Some line → Found ws line
by-words [] line e = cc
by-words (name ∷ ws) line e =
    choose (bytes_eq name (codes "in")) _ _ line e (input name ws line) (λ e.
    choose (bytes_eq name (codes "start")) _ _ line e (start name ws line) (plain name ws line))

-- ---- the text

with-words : (ws : List (List ℕ)) (text : List ℕ) (line : Line) → text ≡ join_with_byte 32 ws → Found ws line → Spells text line
with-words ws text line joined f = cases line f.other (f.digits, record { in_range = f.in_range; bytes = f.bytes; words = joined ∙ ap (join_with_byte 32) f.words })
  where
    cases : (line : Line) → line ≢ Nothing → ((digits : List ℕ) × SpellsWith digits text line) → Spells text line
    cases Nothing other s = absurd (other refl)
    cases (Nodes n) other s = s
    cases (Clock time) other s = s
    cases (Connect c n) other s = s
    cases (Input c bytes) other s = s
    cases (StartWrite k c bytes) other s = s
    cases (Commit k) other s = s
    cases (Settle k) other s = s
    cases (Abort k) other s = s
    cases (Acquire a b) other s = s
    cases (Release a b) other s = s
    cases (Offer a b) other s = s
    cases (Deliver b u) other s = s
    cases (Pump a b) other s = s
    cases (Restart n) other s = s
    cases (Fail n j) other s = s
    cases (Vector n) other s = s
    cases (Dump n) other s = s
    cases (Audit n) other s = s

pub read-spelled : (text : List ℕ) (line : Line) → line_of text ≡ Some line → Spells text line
read-spelled [] line e = subst (λ l. Spells [] l) (some-same Nothing line e) tt
read-spelled (b ∷ text) line e =
    elim (cases_Bool (b == 35)) [
      | inl t ↦ subst (λ l. Spells (b ∷ text) l) (some-same Nothing line (sym (cond-true (b == 35) (Some Nothing) _ t) ∙ e)) (eqb-true b 35 t)
      | inr f ↦
          with-words (words_of (b ∷ text)) (b ∷ text) line (sym (join_with_byte-slice_split 32 (b ∷ text)))
          (by-words (words_of (b ∷ text)) line (sym (cond-false (b == 35) (Some Nothing) _ f) ∙ e))
    ]
