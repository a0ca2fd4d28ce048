-- How a session goes on.
use Rattle.std.proofs.Common.{◌≡◌, ◌≤◌, ℕ, ◌+◌, ◌-◌, nat_lt, Bool, true, false, List, [], ◌∷◌, ◌++◌, length, Ok, refl, sym, ap, ap₂, subst, ◌∙◌, arith, length-append, if◌then◌else◌, ltb-true}
use Rattle.repl_data.specs.declared.csn.Csn.{Csn}
use Rattle.repl_data.specs.declared.change.Update.{Update}
use Rattle.ldap_types.specs.declared.reply.Reply.{Reply}
use Rattle.vector_core.specs.declared.answers.Offer.{Offer}
use Rattle.vector_core.specs.declared.answers.Offer.TheVariants as offered
use Rattle.repl_wire.specs.Reading.{started_of}
use Rattle.repl_wire.specs.Form.{start_bytes, end_bytes}
use Rattle.repl_wire.specs.UpdateForm.{update_bytes}
use Rattle.replica_session.specs.declared.supplier.SessionEnd.{SessionEnd}
use Rattle.replica_session.specs.declared.supplier.SupplyStep.{SupplyStep}
use Rattle.replica_session.specs.declared.supplier.SupplyStep.TheVariants.{Send, Ended}
use Rattle.replica_session.specs.declared.supplier.Kind.{Kind}
use Rattle.replica_session.specs.declared.supplier.Awaited.{Awaited}
use Rattle.replica_session.specs.declared.supplier.Awaited.TheVariants as awaited
use Rattle.replica_session.specs.declared.supplier.Heard.{Heard}
use Rattle.replica_session.specs.declared.supplier.Heard.TheVariants.{Over, Bound, Started, Taken}
use Rattle.replica_session.specs.declared.supplier.Supplier.{Supplier}
use Rattle.replica_session.specs.Calls.{Supplying}
use Rattle.replica_session.specs.Messages.{next_id}
use Rattle.replica_session.specs.Supplier.{message, IsPast, IsNext, SendsStart, SendsNext, HearsSo, heard, one_more}
use Rattle.replica_session.specs.Laws.{Talks, IsAccepted, start_message, AreTaken, Stands, EverySessionStands, EndsSo, EverySessionEnds, CountsTaken, NumbersAreWithin}
use Rattle.replica_session.proofs.Meaning.{Means, means}

-- the bind was accepted, and the start goes out
from_bind : {S : Type 0} (c : Supplying S) (s : Supplier) (supply a b : S) (rs : List Reply) (ms : List (List ℕ)) (w : Awaited) (n : ℕ) (cursor front : List Csn) (r : Reply)
    → Stands c s supply rs ms w n cursor a → w ≡ awaited.Bind → IsAccepted w r → c.fronts a (Ok front) b
    → Stands c s supply (rs ++ r ∷ []) (ms ++ start_message s front ∷ []) awaited.Start n cursor b
from_bind c s supply a b rs ms w n cursor front r (Stands.bound k) e took told = Stands.started r front k b took told
from_bind c s supply a b rs ms w n cursor front r (Stands.started q f k x y t) e took told = absurd cc
from_bind c s supply a b rs ms w n cursor front r (Stands.sends rs' ms' us n' id k raised x y u taken offer past) e took told = absurd cc
from_bind c s supply a b rs ms w n cursor front r (Stands.ends rs' ms' us n' id k x y taken offer) e took told = absurd cc

-- the start was accepted
from_start : {S : Type 0} (c : Supplying S) (s : Supplier) (supply a : S) (rs : List Reply) (ms : List (List ℕ)) (w : Awaited) (n : ℕ) (cursor vector : List Csn) (r : Reply)
    → Stands c s supply rs ms w n cursor a → w ≡ awaited.Start → IsAccepted w r → started_of r ≡ Ok vector
    → AreTaken c s supply (rs ++ r ∷ []) ms [] 0 3 vector a
from_start c s supply a rs ms w n cursor vector r (Stands.started q f k x y t) e took read = AreTaken.none q r f vector x y t took read
from_start c s supply a rs ms w n cursor vector r (Stands.bound k) e took read = absurd cc
from_start c s supply a rs ms w n cursor vector r (Stands.sends rs' ms' us n' id k raised x y u taken offer past) e took read = absurd cc
from_start c s supply a rs ms w n cursor vector r (Stands.ends rs' ms' us n' id k x y taken offer) e took read = absurd cc

id_of : Awaited → ℕ
id_of (awaited.Update id k) = id
id_of other = 0

-- an update was taken
from_update : {S : Type 0} (c : Supplying S) (s : Supplier) (supply a : S) (rs : List Reply) (ms : List (List ℕ)) (w : Awaited) (n : ℕ) (cursor : List Csn) (r : Reply) (i : ℕ) (q : Kind)
    → Stands c s supply rs ms w n cursor a → w ≡ awaited.Update i q → IsAccepted w r
    → (us : List Update) × AreTaken c s supply (rs ++ r ∷ []) ms us (one_more n) (next_id i) cursor a
unfolding id_of
from_update {S} c s supply a rs ms w n cursor r i q (Stands.sends rs' ms' us n' id k raised x y u taken offer past) e took =
    let more = AreTaken.more rs' ms' us n' id k raised x y u r taken offer past took in
    (us ++ u ∷ [], subst (λ (j : ℕ). AreTaken c s supply (rs' ++ r ∷ []) (ms' ++ update_bytes id u ∷ []) (us ++ u ∷ []) (one_more n') (next_id j) raised y) (ap id_of e) more)
from_update c s supply a rs ms w n cursor r i q (Stands.bound k) e took = absurd cc
from_update c s supply a rs ms w n cursor r i q (Stands.started z f k x y t) e took = absurd cc
from_update c s supply a rs ms w n cursor r i q (Stands.ends rs' ms' us n' id k x y taken offer) e took = absurd cc

-- the next message goes out
by_offer : {S : Type 0} (c : Supplying S) (s : Supplier) (supply a b : S) (rs : List Reply) (ms : List (List ℕ)) (us : List Update) (n id : ℕ) (cursor raised : List Csn) (m : List ℕ) (w : Awaited) (o : Offer)
    → AreTaken c s supply rs ms us n id cursor a → c.offers a cursor (Ok o) b → (m, w) ≡ message s.rid id o → IsPast cursor raised o
    → Stands c s supply rs (ms ++ m ∷ []) w n raised b
by_offer c s supply a b rs ms us n id cursor raised m w (offered.Next u) taken offer sends past =
    subst (λ (p : List ℕ × Awaited). Stands c s supply rs (ms ++ p.0 ∷ []) p.1 n raised b) (sym sends)
    (Stands.sends rs ms us n id cursor raised a b u taken offer past)
by_offer c s supply a b rs ms us n id cursor raised m w offered.Done taken offer sends past =
    subst (λ (p : List ℕ × Awaited). Stands c s supply rs (ms ++ p.0 ∷ []) p.1 n raised b) (sym sends)
    (subst (λ (k : List Csn). Stands c s supply rs (ms ++ end_bytes id (record { rid = s.rid }) ∷ []) (awaited.End id) n k b) (sym past)
    (Stands.ends rs ms us n id cursor a b taken offer))

by_next : {S : Type 0} (c : Supplying S) (s : Supplier) (supply a b : S) (rs : List Reply) (ms : List (List ℕ)) (us : List Update) (n id : ℕ) (cursor raised : List Csn) (m : List ℕ) (w : Awaited)
    → AreTaken c s supply rs ms us n id cursor a → IsNext c s.rid id cursor a (m, w) raised b → Stands c s supply rs (ms ++ m ∷ []) w n raised b
by_next c s supply a b rs ms us n id cursor raised m w taken next =
    by_offer c s supply a b rs ms us n id cursor raised m w next.offer taken next.offered next.sends next.past

-- what a supplier keeps: where it stands, and who it is
pub record IsKept {S : Type 0} (c : Supplying S) (s : Supplier) (supply : S) (rs : List Reply) (ms : List (List ℕ)) (now : Supplier) (a : S) : Type 0 where
  pub stands : Stands c s supply rs ms now.awaited now.sent now.cursor a
  pub rid : now.rid ≡ s.rid
  pub suffix : now.suffix ≡ s.suffix

-- after the start went out
kept_start : {S : Type 0} (c : Supplying S) (s : Supplier) (supply a b : S) (rs : List Reply) (ms : List (List ℕ)) (old new : Supplier) (r : Reply) (m : List ℕ)
    → IsKept c s supply rs ms old a → (old.awaited ≡ awaited.Bind) × IsAccepted old.awaited r → SendsStart c old a m new b → IsKept c s supply (rs ++ r ∷ []) (ms ++ m ∷ []) new b
kept_start c s supply a b rs ms old new r m kept by sent =
    let stands = from_bind c s supply a b rs ms old.awaited old.sent old.cursor sent.front r kept.stands by.0 by.1 sent.told in
    let same : m ≡ start_message s sent.front = sent.sends ∙ ap₂ (λ (suffix : List ℕ) (rid : ℕ). start_bytes 2 (record { suffix = suffix; rid = rid; front = sent.front })) kept.suffix kept.rid in
    rw sent.state (record {
      stands = subst (λ (x : List ℕ). Stands c s supply (rs ++ r ∷ []) (ms ++ x ∷ []) awaited.Start old.sent old.cursor b) (sym same) stands;
      rid = kept.rid;
      suffix = kept.suffix;
    })

-- after the next message went out
kept_next : {S : Type 0} (c : Supplying S) (s : Supplier) (supply a b : S) (rs : List Reply) (ms : List (List ℕ)) (us : List Update) (old new : Supplier) (n id : ℕ) (cursor : List Csn) (m : List ℕ)
    → AreTaken c s supply rs ms us n id cursor a → old.rid ≡ s.rid → old.suffix ≡ s.suffix → SendsNext c cursor n id old a m new b → IsKept c s supply rs (ms ++ m ∷ []) new b
kept_next c s supply a b rs ms us old new n id cursor m taken rid suffix sent =
    let next : IsNext c s.rid id cursor a (m, new.awaited) new.cursor b = subst (λ (k : ℕ). IsNext c k id cursor a (m, new.awaited) new.cursor b) rid sent.next in
    let stands = by_next c s supply a b rs ms us n id cursor new.cursor m new.awaited taken next in
    record {
      stands = subst (λ (k : ℕ). Stands c s supply rs (ms ++ m ∷ []) new.awaited k new.cursor b) (sym (ap (λ (x : Supplier). x.sent) sent.state)) stands;
      rid = ap (λ (x : Supplier). x.rid) sent.state ∙ rid;
      suffix = ap (λ (x : Supplier). x.suffix) sent.state ∙ suffix;
    }

step : {S : Type 0} (c : Supplying S) (s : Supplier) (supply a b : S) (rs : List Reply) (ms : List (List ℕ)) (old new : Supplier) (r : Reply) (m : List ℕ) (h : Heard)
    → IsKept c s supply rs ms old a → Means old.awaited old.sent r h → HearsSo c old a h (Send m) new b → IsKept c s supply (rs ++ r ∷ []) (ms ++ m ∷ []) new b
step c s supply a b rs ms old new r m (Over end) kept by sent = let f : Send m ≡ Ended end = sent.0 in absurd cc
step c s supply a b rs ms old new r m Bound kept by sent = kept_start c s supply a b rs ms old new r m kept by sent
step c s supply a b rs ms old new r m (Started vector) kept by sent =
    let taken = from_start c s supply a rs ms old.awaited old.sent old.cursor vector r kept.stands by.0 by.1 by.2 in
    kept_next c s supply a b (rs ++ r ∷ []) ms [] old new 0 3 vector m taken kept.rid kept.suffix sent
step c s supply a b rs ms old new r m (Taken next) kept by sent =
    let k = from_update c s supply a rs ms old.awaited old.sent old.cursor r by.0 by.1 kept.stands by.2 by.3 in
    let taken : AreTaken c s supply (rs ++ r ∷ []) ms k.0 (one_more old.sent) next old.cursor a = subst (λ (j : ℕ). AreTaken c s supply (rs ++ r ∷ []) ms k.0 (one_more old.sent) j old.cursor a) (sym by.4) k.1 in
    kept_next c s supply a b (rs ++ r ∷ []) ms k.0 old new (one_more old.sent) next old.cursor m taken kept.rid kept.suffix sent

kept : {S : Type 0} (c : Supplying S) (s : Supplier) (supply : S) (new : Supplier) (after : S) (rs : List Reply) (ms : List (List ℕ)) → Talks c s supply rs ms new after → IsKept c s supply rs ms new after
kept c s supply new after rs ms Talks.bound = record { stands = Stands.bound s.cursor; rid = refl; suffix = refl }
kept c s supply new after rs ms (Talks.more rs' ms' old new' a b r m before heard_so) =
    step c s supply a b rs' ms' old new r m (heard old.awaited old.sent r) (kept c s supply old a rs' ms' before) (means old.awaited old.sent r) heard_so

pub every_session_stands : {S : Type 0} (c : Supplying S) → EverySessionStands c
every_session_stands c s new supply after rs ms talks =
    let k = kept c s supply new after rs ms talks in
    (k.stands, k.rid, k.suffix)

-- ---- the end

ended_so : {S : Type 0} (c : Supplying S) (old new : Supplier) (a b : S) (r : Reply) (end : SessionEnd) (h : Heard)
    → Means old.awaited old.sent r h → HearsSo c old a h (Ended end) new b → EndsSo old.awaited old.sent r end
ended_so c old new a b r end (Over other) by so = subst (λ (e : SessionEnd). EndsSo old.awaited old.sent r e) (sym (same_end so.0)) by
  where
    end_in : SupplyStep → SessionEnd
    end_in (Ended e) = e
    end_in (Send m) = end

    same_end : Ended end ≡ Ended other → end ≡ other
    same_end e = ap end_in e
ended_so c old new a b r end Bound by so = absurd so
ended_so c old new a b r end (Started vector) by so = absurd so
ended_so c old new a b r end (Taken next) by so = absurd so

pub every_session_ends : {S : Type 0} (c : Supplying S) → EverySessionEnds c
every_session_ends c old new a b r end so = ended_so c old new a b r end (heard old.awaited old.sent r) (means old.awaited old.sent r) so

-- ---- counts and numbers

pub counts_taken : {S : Type 0} (c : Supplying S) → CountsTaken c
counts_taken c s supply a _ _ _ _ _ _ (AreTaken.none x y z v k p q t u) = refl
counts_taken c s supply a _ _ _ _ _ _ (AreTaken.more rs ms us n id cursor raised x y u r before offer past took) =
    let e = counts_taken c s supply x rs ms us n id cursor before in
    let len = length-append us (u ∷ []) in
    omega (arith, e, len)

pub numbers_are_within : {S : Type 0} (c : Supplying S) → NumbersAreWithin c
numbers_are_within c s supply a _ _ _ _ _ _ (AreTaken.none x y z v k p q t u) = (omega arith, omega arith)
numbers_are_within c s supply a _ _ _ _ _ _ (AreTaken.more rs ms us n id cursor raised x y u r before offer past took) =
    next_within id (numbers_are_within c s supply x rs ms us n id cursor before)
  where
    chosen : (i : ℕ) (b : Bool) → nat_lt i 2147483647 ≡ b → (3 ≤ i) × (i ≤ 2147483647) → (3 ≤ (if b then i + 1 else 3)) × ((if b then i + 1 else 3) ≤ 2147483647)
    chosen i true e h = let lt = ltb-true i 2147483647 e in (omega (arith, h.0, lt), omega (arith, lt))
    chosen i false e h = (omega arith, omega arith)

    next_within : (i : ℕ) → (3 ≤ i) × (i ≤ 2147483647) → (3 ≤ next_id i) × (next_id i ≤ 2147483647)
    next_within i h = chosen i (nat_lt i 2147483647) refl h
