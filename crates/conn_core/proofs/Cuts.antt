-- A stream is read in one way, and may be cut anywhere.
use Rattle.std.proofs.Common.{◌≡◌, ◌≢◌, ℕ, zero, suc, ◌≤◌, Bool, true, false, cond, List, [], ◌∷◌, ◌++◌, length, drop, Result, Ok, Err, refl, sym, ap, subst, ◌∙◌, append_assoc, arith, length-drop}
use Rattle.std.proofs.Math.Seq.{drop-append_seam}
use Rattle.ldap_types.specs.declared.request.Request.{Request}
use Rattle.ber_core.specs.declared.fault.NotLdapWhy.{NotLdapWhy}
use Rattle.ber_core.specs.Window.{Stop, More, Fault}
use Rattle.io_edge.specs.declared.machine.Fed.{Fed}
use Rattle.io_edge.specs.declared.machine.Fed.TheVariants.{Running, Unbound, BadBytes, Closed}
use Rattle.conn_core.specs.Stream.{first_request, is_unbind, BeginsWith, EndsSo, IsStream}
use Rattle.conn_core.specs.Whole.{Stream, stops, behind_first, stream_by, stream_within, stream_of, HasOneStream, MayBeCut}
use Rattle.conn_core.proofs.Streams.{size_within, request_stays, fault_stays, none_in_nothing, begins_next}

-- ---- the computed stream is one

found : Request → ℕ → Result (Request × ℕ) Stop
found r size = Ok (r, size)

StreamIs : List ℕ → Stream → Type 0
StreamIs bytes s = IsStream bytes s.requests s.left s.fed

-- a request in front
in_front : (bytes : List ℕ) (r : Request) (size : ℕ) (s : Stream) → first_request bytes ≡ Ok (r, size) → is_unbind r.op ≡ false → IsStream (drop size bytes) s.requests s.left s.fed → IsStream bytes (r ∷ s.requests) s.left s.fed
in_front bytes r size s is un k = record { begins = begins_next bytes r size s.requests s.left is un k.begins; ends = k.ends }

stops_so : (bytes : List ℕ) (fed : Fed) → EndsSo bytes fed → IsStream bytes [] bytes fed
stops_so bytes fed h = record { begins = refl; ends = h }

by_front : (bytes : List ℕ) (rest : ℕ → Stream) (front : Result (Request × ℕ) Stop) → first_request bytes ≡ front → ((r : Request) (size : ℕ) → first_request bytes ≡ Ok (r, size) → IsStream (drop size bytes) (rest size).requests (rest size).left (rest size).fed)
    → StreamIs bytes (stream_by rest bytes front)
unfolding StreamIs
by_front bytes rest (Ok (r, size)) e more = by_op (is_unbind r.op) refl
  where
    by_op : (b : Bool) → is_unbind r.op ≡ b → StreamIs bytes (cond b (stops bytes Unbound) (behind_first r (rest size)))
    by_op true un = stops_so bytes Unbound (r, size, e, un)
    by_op false un = in_front bytes r size (rest size) e un (more r size e)
by_front bytes rest (Err More) e more = stops_so bytes Running e
by_front bytes rest (Err (Fault place why)) e more = stops_so bytes (BadBytes place) (why, e)

nothing_left : (bytes : List ℕ) → length bytes ≤ 0 → bytes ≡ []
nothing_left [] le = refl
nothing_left (b ∷ bs) le = absurd (omega arith)

opened : (bytes : List ℕ) (s : Stream) → StreamIs bytes s → IsStream bytes s.requests s.left s.fed
unfolding StreamIs
opened bytes s h = h

within_is : (most : ℕ) (bytes : List ℕ) → length bytes ≤ most → IsStream bytes (stream_within most bytes).requests (stream_within most bytes).left (stream_within most bytes).fed
within_is zero bytes le = stops_so bytes Running (subst (λ (x : List ℕ). first_request x ≡ Err More) (sym (nothing_left bytes le)) none_in_nothing)
within_is (suc most) bytes le =
    let h = by_front bytes (λ size. stream_within most (drop size bytes)) (first_request bytes) refl
    (λ r size e. within_is most (drop size bytes) (let w = size_within bytes r size e in let len = length-drop size bytes in omega arith)) in
    opened bytes (stream_by (λ size. stream_within most (drop size bytes)) bytes (first_request bytes)) h

-- ---- and no other is

request_in : Request → Result (Request × ℕ) Stop → Request
request_in d (Ok p) = p.0
request_in d (Err e) = d

size_in : ℕ → Result (Request × ℕ) Stop → ℕ
size_in d (Ok p) = p.1
size_in d (Err e) = d

same_found : (r s : Request) (m n : ℕ) → found r m ≡ found s n → (r ≡ s) × (m ≡ n)
unfolding found request_in size_in
same_found r s m n e = (ap (λ (x : Result (Request × ℕ) Stop). request_in r x) e, ap (λ (x : Result (Request × ℕ) Stop). size_in m x) e)

not_more : (r : Request) (n : ℕ) → found r n ≡ Err More → ⊥
unfolding found
not_more r n e = absurd cc

not_fault : (r : Request) (n place : ℕ) (why : NotLdapWhy) → found r n ≡ Err (Fault place why) → ⊥
unfolding found
not_fault r n place why e = absurd cc

-- a request that is carried out stands at no end
true_is_false : true ≡ false → ⊥
true_is_false x = absurd cc

pub no_end : (bytes : List ℕ) (r : Request) (size : ℕ) (fed : Fed) → first_request bytes ≡ Ok (r, size) → is_unbind r.op ≡ false → EndsSo bytes fed → ⊥
unfolding found
no_end bytes r size Running e un h = not_more r size (sym e ∙ h)
no_end bytes r size Unbound e un h =
    let same = same_found r h.0 size h.1 (sym e ∙ h.2) in
    true_is_false (sym h.3 ∙ sym (ap (λ (x : Request). is_unbind x.op) same.0) ∙ un)
no_end bytes r size (BadBytes place) e un h = not_fault r size place h.0 (sym e ∙ h.1)
no_end bytes r size Closed e un h = h

-- ---- cutting

StreamOf : List ℕ → List Request → List ℕ → Fed → Type 0
StreamOf bytes requests left fed = IsStream bytes requests left fed

begins_on : (bytes more : List ℕ) (first others : List Request) (held left : List ℕ) → BeginsWith bytes first held → BeginsWith (held ++ more) others left → BeginsWith (bytes ++ more) (first ++ others) left
begins_on bytes more [] others held left b k = subst (λ (x : List ℕ). BeginsWith (x ++ more) others left) (sym b) k
begins_on bytes more (r ∷ rs) others held left b k =
    let split : bytes ++ more ≡ b.0 ++ (b.1 ++ more) = ap (λ (x : List ℕ). x ++ more) b.2 ∙ append_assoc b.0 b.1 more in
    (b.0, b.1 ++ more, split, request_stays bytes more r (length b.0) b.3, b.4, begins_on b.1 more rs others held left b.5 k)

ends_on : (left more : List ℕ) (fed : Fed) → EndsSo left fed → fed ≢ Running → EndsSo (left ++ more) fed
ends_on left more Running h n = absurd (n refl)
ends_on left more Unbound h n = (h.0, h.1, request_stays left more h.0 h.1 h.2, h.3)
ends_on left more (BadBytes place) h n = (h.0, fault_stays left more place h.0 h.1)
ends_on left more Closed h n = h

begins_before : (bytes more : List ℕ) (requests : List Request) (left : List ℕ) → BeginsWith bytes requests left → BeginsWith (bytes ++ more) requests (left ++ more)
begins_before bytes more [] left b = ap (λ (x : List ℕ). x ++ more) b
begins_before bytes more (r ∷ rs) left b =
    (b.0, b.1 ++ more, ap (λ (x : List ℕ). x ++ more) b.2 ∙ append_assoc b.0 b.1 more, request_stays bytes more r (length b.0) b.3, b.4, begins_before b.1 more rs left b.5)

pub may_be_cut : MayBeCut
may_be_cut = record {
  goes_on = λ bytes more first others held left fed a b. record { begins = begins_on bytes more first others held left a.begins b.begins; ends = b.ends };
  has_ended = λ bytes more requests left fed a n. record { begins = begins_before bytes more requests left a.begins; ends = ends_on left more fed a.ends n };
}

-- ---- two readings of one stream are one

halted : Stop → Result (Request × ℕ) Stop
halted s = Err s

made_stream : List Request → List ℕ → Fed → Stream
made_stream rs left fed = record { requests = rs; left = left; fed = fed }

more_or_fault : (place : ℕ) (why : NotLdapWhy) → halted More ≡ halted (Fault place why) → ⊥
unfolding halted
more_or_fault place why e = absurd cc

same_place : (p q : ℕ) (w v : NotLdapWhy) → halted (Fault p w) ≡ halted (Fault q v) → p ≡ q
unfolding halted
same_place p q w v e = cc

same_end : (bytes : List ℕ) (f g : Fed) → EndsSo bytes f → EndsSo bytes g → f ≡ g
unfolding halted found
same_end bytes Running Running h k = refl
same_end bytes Running Unbound h k = absurd (not_more k.0 k.1 (sym k.2 ∙ h))
same_end bytes Running (BadBytes q) h k = absurd (more_or_fault q k.0 (sym h ∙ k.1))
same_end bytes Unbound Running h k = absurd (not_more h.0 h.1 (sym h.2 ∙ k))
same_end bytes Unbound Unbound h k = refl
same_end bytes Unbound (BadBytes q) h k = absurd (not_fault h.0 h.1 q k.0 (sym h.2 ∙ k.1))
same_end bytes (BadBytes p) Running h k = absurd (more_or_fault p h.0 (sym k ∙ h.1))
same_end bytes (BadBytes p) Unbound h k = absurd (not_fault k.0 k.1 p h.0 (sym k.2 ∙ h.1))
same_end bytes (BadBytes p) (BadBytes q) h k = ap (λ (n : ℕ). BadBytes n) (same_place p q h.0 k.0 (sym h.1 ∙ k.1))
same_end bytes Closed g h k = absurd h
same_end bytes f Closed h k = absurd k

same_rest : (first first' others others' : List ℕ) → first ++ others ≡ first' ++ others' → length first ≡ length first' → others ≡ others'
same_rest first first' others others' e len =
    sym (drop-append_seam first others) ∙ ap (λ (n : ℕ). drop n (first ++ others)) len ∙ ap (λ (x : List ℕ). drop (length first') x) e ∙ drop-append_seam first' others'

pub both_found : (r s : Request) (m n : ℕ) (bytes : List ℕ) → first_request bytes ≡ Ok (r, m) → first_request bytes ≡ Ok (s, n) → (r ≡ s) × (m ≡ n)
unfolding found
both_found r s m n bytes e f = same_found r s m n (sym e ∙ f)

one_way : (rs ss : List Request) (bytes left other : List ℕ) (f g : Fed) → BeginsWith bytes rs left → EndsSo left f → BeginsWith bytes ss other → EndsSo other g → made_stream rs left f ≡ made_stream ss other g
unfolding made_stream
one_way [] [] bytes left other f g b h k m =
    ap (λ (x : List ℕ). made_stream [] x f) (sym b ∙ k) ∙ ap (λ (x : Fed). made_stream [] other x) (same_end other f g (subst (λ (x : List ℕ). EndsSo x f) (sym b ∙ k) h) m)
one_way [] (r ∷ rs) bytes left other f g b h k m = absurd (no_end bytes r (length k.0) f k.3 k.4 (subst (λ (x : List ℕ). EndsSo x f) (sym b) h))
one_way (r ∷ rs) [] bytes left other f g b h k m = absurd (no_end bytes r (length b.0) g b.3 b.4 (subst (λ (x : List ℕ). EndsSo x g) (sym k) m))
one_way (r ∷ rs) (s ∷ ss) bytes left other f g b h k m =
    let same = both_found r s (length b.0) (length k.0) bytes b.3 k.3 in
    let rest = same_rest b.0 k.0 b.1 k.1 (sym b.2 ∙ k.2) same.1 in
    let more = one_way rs ss k.1 left other f g (subst (λ (x : List ℕ). BeginsWith x rs left) rest b.5) h k.5 m in
    ap (λ (x : Request). made_stream (x ∷ rs) left f) same.0 ∙ ap (λ (x : Stream). behind_first s x) more

pub has_one_stream : HasOneStream
unfolding made_stream
has_one_stream = record {
  is = λ bytes. within_is (length bytes) bytes (omega arith);
  only = λ bytes requests left fed s.
      let t = within_is (length bytes) bytes (omega arith) in
      one_way (stream_of bytes).requests requests bytes (stream_of bytes).left left (stream_of bytes).fed fed t.begins t.ends s.begins s.ends;
}
