-- Requests that are carried out one after the other.
use Rattle.std.proofs.Common.{◌≡◌, ℕ, ◌+◌, false, List, [], ◌∷◌, ◌++◌, drop, Ok, Err, refl, sym, ap, subst, ◌∙◌, append_assoc, append-nil}
use Rattle.ldap_types.specs.declared.request.Request.{Request}
use Rattle.ldap_types.specs.declared.request.Op.{Op}
use Rattle.ldap_types.specs.declared.reply.Identity.{Identity}
use Rattle.conn_core.specs.Stream.{first_request, is_unbind, BeginsWith, EndsSo}
use Rattle.search_core.specs.declared.found.Found.{Found}
use Rattle.conn_core.specs.Serving.{Reach, Session, Serves, IsServed, only, replies_to, count_starved}
use Rattle.node_core.specs.Answers.{used_up}
use Rattle.io_edge.specs.declared.machine.Fed.{Fed}
use Rattle.io_edge.specs.declared.machine.Fed.TheVariants.{Running}
use Rattle.ber_core.specs.Window.{More}
use Rattle.conn_core.specs.declared.conn.Conn.{Conn}
use Rattle.conn_core.specs.Feeding.{session, Carries, CarriesPart, none_missing, IsCut, JoinsPart, StillWait, Feeds, notice_of, held_of, is_end}
use Rattle.std.proofs.lemmas.List.{drop-drop}
use Rattle.conn_core.proofs.Streams.{begins_next}

pub carries_none : {N : Type 0} (c : Reach N) (now : ℕ) (bytes : List ℕ) (s : Session N) → Carries c now bytes s bytes s
carries_none c now bytes s = record { requests = []; begins = refl; served = refl }

pub carries_next : {N : Type 0} (c : Reach N) (now : ℕ) (bytes : List ℕ) (r : Request) (size : ℕ) (s m : Session N) (left : List ℕ) (t : Session N) → first_request bytes ≡ Ok (r, size) → is_unbind r.op ≡ false → IsServed c now r s m → Carries c now (drop size bytes) m left t → Carries c now bytes s left t
carries_next c now bytes r size s m left t is un served k = record {
  requests = r ∷ k.requests;
  begins = begins_next bytes r size k.requests left is un k.begins;
  served = (m, served, k.served);
}

-- ---- one request

-- the state behind a request with this answer
abbrev pub behind : {N : Type 0} → Session N → N → Identity → Found → Request → Session N
behind s node bound told r = record { node = node; bound = bound; replies = s.replies ++ replies_to r.id r.op told; starved = count_starved told.result s.starved }

pub served_so : {N : Type 0} (c : Reach N) (now : ℕ) (r : Request) (s : Session N) (node : N) (bound : Identity) (told : Found) → Serves c now s.bound r s.node node bound told r.op → IsServed c now r s (behind s node bound told r)
served_so c now r s node bound told h = record { answer = told; served = h; replied = refl; counted = refl }

-- ---- the replies that waited

pub still : (old new : List (List ℕ)) → new ≡ old → StillWait old new
still old new e = ([], e ∙ sym (append-nil old))

pub still_more : (old between new : List (List ℕ)) → StillWait old between → StillWait between new → StillWait old new
still_more old between new a b = (a.0 ++ b.0, b.1 ∙ ap (λ (x : List (List ℕ)). x ++ b.0) a.1 ∙ append_assoc old a.0 b.0)

pub still_bound : (old new : Conn) → new ≡ record old { bound = new.bound } → StillWait old.replies new.replies
still_bound old new e = still old.replies new.replies (ap (λ (x : Conn). x.replies) e)

-- ---- how a request leaves a connection

-- memory was wanting for its result's text
pub cut_answer : {N : Type 0} (c : Reach N) (now : ℕ) (r : Request) (old new : Conn) (node after : N) (told : Found) → Serves c now old.bound r node after new.bound told r.op → told ≡ only used_up → new ≡ record old { bound = new.bound }
    → (last : Session N) × IsServed c now r (session old node) last × IsCut (session old node) last (session new after)
cut_answer c now r old new node after told h used same = (
  behind (session old node) after new.bound told r,
  served_so c now r (session old node) after new.bound told h,
  record {
    missing = replies_to r.id r.op told;
    replies = ap (λ (x : List (List ℕ)). x ++ replies_to r.id r.op told) (sym (ap (λ (x : Conn). x.replies) same));
    kept = still_bound old new same;
    same_node = refl;
    same_bound = refl;
    same_count = ap (λ (x : Conn). x.starved) same ∙ sym (ap (λ (x : Found). count_starved x.result old.starved) used);
  },
)

-- its replies join those that wait
pub left_replied : {N : Type 0} (c : Reach N) (now : ℕ) (r : Request) (old new sent_on : Conn) (node after : N) (told : Found) (count : ℕ) → Serves c now old.bound r node after new.bound told r.op → new ≡ record old { bound = new.bound } → count ≡ count_starved told.result new.starved
    → sent_on ≡ record new { starved = count; replies = new.replies ++ replies_to r.id r.op told }
    → (last : Session N) × IsServed c now r (session old node) last × (session sent_on after ≡ last)
left_replied c now r old new sent_on node after told count h same counted is =
    let one : new.starved ≡ old.starved = ap (λ (x : Conn). x.starved) same in
    let two : new.replies ≡ old.replies = ap (λ (x : Conn). x.replies) same in
    let last : Session _ = record { node = after; bound = new.bound; replies = new.replies ++ replies_to r.id r.op told; starved = count } in (
      last,
      record {
        answer = told;
        served = h;
        replied = ap (λ (x : List (List ℕ)). x ++ replies_to r.id r.op told) two;
        counted = counted ∙ ap (λ (n : ℕ). count_starved told.result n) one;
      },
      ap (λ (x : Conn). session x after) is,
    )

-- memory was wanting for one of its replies
pub cut_reply : {N : Type 0} (c : Reach N) (now : ℕ) (r : Request) (old new sent_on : Conn) (node after : N) (told : Found) (count : ℕ) → Serves c now old.bound r node after new.bound told r.op → new ≡ record old { bound = new.bound } → count ≡ count_starved told.result new.starved
    → JoinsPart (replies_to r.id r.op told) (record new { starved = count }) sent_on
    → (last : Session N) × IsServed c now r (session old node) last × IsCut (session old node) last (session sent_on after)
cut_reply c now r old new sent_on node after told count h same counted p =
    let whole = left_replied c now r old new (record new { starved = count; replies = new.replies ++ replies_to r.id r.op told }) node after told count h same counted refl in
    let here : sent_on.replies ≡ new.replies ++ p.added = ap (λ (x : Conn). x.replies) p.state in (
      session (record new { starved = count; replies = new.replies ++ replies_to r.id r.op told }) after,
      subst (λ (x : Session _). IsServed c now r (session old node) x) (sym whole.2) whole.1,
      record {
        missing = p.missing;
        replies = ap (λ (x : List (List ℕ)). new.replies ++ x) p.all ∙ sym (append_assoc new.replies p.added p.missing) ∙ ap (λ (x : List (List ℕ)). x ++ p.missing) (sym here);
        kept = still_more old.replies new.replies sent_on.replies (still_bound old new same) (p.added, here);
        same_node = refl;
        same_bound = ap (λ (x : Conn). x.bound) p.state;
        same_count = ap (λ (x : Conn). x.starved) p.state;
      },
    )

-- what waited before a request still does behind it
pub part_waits : (all : List (List ℕ)) (old new : Conn) → JoinsPart all old new → StillWait old.replies new.replies
part_waits all old new p = (p.added, ap (λ (x : Conn). x.replies) p.state)

pub as_told : {N : Type 0} (c : Reach N) (now : ℕ) (bound : Identity) (r : Request) (old new : N) (after : Identity) (told x : Found) (op : Op) → Serves c now bound r old new after x op → told ≡ x → Serves c now bound r old new after told op
as_told c now bound r old new after told x op h e = subst (λ (y : Found). Serves c now bound r old new after y op) (sym e) h

-- ---- along a stream

pub carried_on : {N : Type 0} (c : Reach N) (now : ℕ) (bytes : List ℕ) (r : Request) (size : ℕ) (s last m : Session N) → first_request bytes ≡ Ok (r, size) → is_unbind r.op ≡ false → IsServed c now r s last → m ≡ last
    → (left : List ℕ) (t : Session N) → Carries c now (drop size bytes) m left t → Carries c now bytes s left t
carried_on c now bytes r size s last m is un served same left t k = carries_next c now bytes r size s m left t is un (subst (λ (x : Session _). IsServed c now r s x) (sym same) served) k

-- one request stands at the front
pub begins_one : (bytes : List ℕ) (r : Request) (size : ℕ) → first_request bytes ≡ Ok (r, size) → is_unbind r.op ≡ false → BeginsWith bytes (r ∷ []) (drop size bytes)
begins_one bytes r size is un = begins_next bytes r size [] (drop size bytes) is un refl

pub further : {N : Type 0} (c : Reach N) (now : ℕ) (stream : List ℕ) (at size : ℕ) (m : Session N) (left : List ℕ) (t : Session N) → Carries c now (drop (at + size) stream) m left t → Carries c now (drop size (drop at stream)) m left t
further c now stream at size m left t k = subst (λ (b : List ℕ). Carries c now b m left t) (sym (drop-drop size at stream)) k

-- ---- a feed

pub part_none : {N : Type 0} (c : Reach N) (now : ℕ) (bytes : List ℕ) (s : Session N) → CarriesPart c now bytes s s
part_none c now bytes s = none_missing bytes (carries_none c now bytes s)

made : {N : Type 0} → N → Identity → List (List ℕ) → ℕ → Session N
made n bound replies starved = record { node = n; bound = bound; replies = replies; starved = starved }

same_state : {N : Type 0} (a b : Conn) (n : N) → a.bound ≡ b.bound → a.starved ≡ b.starved → a.replies ≡ b.replies → session a n ≡ session b n
unfolding made
same_state a b n one two three = ap (λ (x : Identity). made n x a.replies a.starved) one ∙ ap (λ (x : ℕ). made n b.bound a.replies x) two ∙ ap (λ (x : List (List ℕ)). made n b.bound x b.starved) three

-- the same bytes
pub part_on : {N : Type 0} (c : Reach N) (now : ℕ) (bytes stream : List ℕ) (old new : Session N) → stream ≡ bytes → CarriesPart c now stream old new → CarriesPart c now bytes old new
part_on c now bytes stream old new e k = subst (λ (x : List ℕ). CarriesPart c now x old new) e k

-- the same state, where only what is held differs
pub part_kept : {N : Type 0} (c : Reach N) (now : ℕ) (bytes stream : List ℕ) (s : Session N) (left : List ℕ) (a b : Conn) (n : N) → stream ≡ bytes → Carries c now stream s left (session b n)
    → (a.bound ≡ b.bound) × (a.starved ≡ b.starved) → a.replies ≡ b.replies → CarriesPart c now bytes s (session a n)
part_kept c now bytes stream s left a b n e k others replies =
    none_missing left
    (subst (λ (x : Session _). Carries c now bytes s left x) (sym (same_state a b n others.0 others.1 replies))
    (subst (λ (x : List ℕ). Carries c now x s left (session b n)) e k))

state_is : {N : Type 0} (a b : Conn) (n : N) (more : List (List ℕ)) → a.bound ≡ b.bound → a.starved ≡ b.starved → a.replies ≡ b.replies ++ more → session a n ≡ record (session b n) { replies = b.replies ++ more }
unfolding made
state_is a b n more one two three = ap (λ (x : Identity). made n x a.replies a.starved) one ∙ ap (λ (x : ℕ). made n b.bound a.replies x) two ∙ ap (λ (x : List (List ℕ)). made n b.bound x b.starved) three

pub feeds_so : {N : Type 0} (c : Reach N) (now : ℕ) (piece : List ℕ) (old : Conn) (node : N) (fed : Fed) (new : Conn) (after : N) (stream whole : List ℕ) (at : ℕ) (b : Conn) → stream ≡ whole → whole ≡ old.held ++ piece
    → Carries c now stream (session old node) (drop at stream) (session b after) → EndsSo (drop at stream) fed
    → (new.bound ≡ b.bound) × (new.starved ≡ b.starved) → new.replies ≡ b.replies ++ notice_of fed → new.held ≡ held_of fed (drop at whole) → new.is_closed ≡ is_end fed → Feeds c now piece old node fed new after
feeds_so c now piece old node fed new after stream whole at b same is k ends others replies held closed = record {
  left = drop at stream;
  last = session b after;
  carried = subst (λ (x : List ℕ). Carries c now x (session old node) (drop at stream) (session b after)) (same ∙ is) k;
  ends = ends;
  state = state_is new b after (notice_of fed) others.0 others.1 replies;
  held = held ∙ ap (λ (x : List ℕ). held_of fed (drop at x)) (sym same);
  closed = closed;
}

-- no request is whole yet
pub feeds_none : {N : Type 0} (c : Reach N) (now : ℕ) (piece : List ℕ) (old new : Conn) (node : N) → first_request (old.held ++ piece) ≡ Err More → old.is_closed ≡ false → new ≡ record old { held = old.held ++ piece } → Feeds c now piece old node Running new node
feeds_none c now piece old new node more fresh e = record {
  left = old.held ++ piece;
  last = session old node;
  carried = carries_none c now (old.held ++ piece) (session old node);
  ends = more;
  state = state_is new old node [] (ap (λ (x : Conn). x.bound) e) (ap (λ (x : Conn). x.starved) e) (ap (λ (x : Conn). x.replies) e ∙ sym (append-nil old.replies));
  held = ap (λ (x : Conn). x.held) e;
  closed = ap (λ (x : Conn). x.is_closed) e ∙ fresh;
}
