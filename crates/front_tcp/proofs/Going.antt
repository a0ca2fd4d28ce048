-- A stream that is served, before it ends.
use Rattle.std.proofs.Common.{◌≡◌, ℕ, ◌<◌, List, [], ◌++◌, Option, Some, None, Result, Ok, Err, length, sym, ap, ◌∙◌, subst, refl, inl, inr, append_assoc, append-nil}
use Rattle.std.proofs.KnownBytes.{Appends-nil, Appends-trans, Consumes-trans, Consumes-kept}
use Rattle.std.specs.Io.KnownBytes.{Appends, Consumes, Keeps, ReadConsumes}
use Rattle.io_edge.specs.declared.edge.NoMemory.{NoMemory}
use Rattle.io_edge.specs.declared.machine.Fed.{Fed}
use Rattle.io_edge.specs.declared.machine.Fed.TheVariants as fed
use Rattle.io_edge.specs.Edge.{AppendsFront}
use Rattle.front_tcp.specs.declared.end.StreamEnd.TheVariants.{Ended, Unbound, BadBytes, ReadFault, WriteFault}
use Rattle.front_tcp.specs.Serving.{GoesOn, EndsBy, Serves}
use Rattle.front_tcp.proofs.Sending.{front_more}

-- all that was read was fed, and all that it gave was written
pub record Going {S : Type 0} (adds : S → List ℕ → Result Fed NoMemory → List ℕ → S → Type 0) (start : S) (waiting : List ℕ) (left contents : Option (List ℕ)) (now : S) (left_now contents_now : Option (List ℕ)) : Type 0 where
  pub read : List ℕ
  pub added : List ℕ
  pub taken : Consumes left left_now read
  pub goes_on : GoesOn adds start read added now
  pub written : Appends contents contents_now (waiting ++ added)

pub Consumes-nil : (a : Option (List ℕ)) → Consumes a a []
Consumes-nil None = tt
Consumes-nil (Some x) = refl

-- at the start, once what waited is written
pub begins : {S : Type 0} (adds : S → List ℕ → Result Fed NoMemory → List ℕ → S → Type 0) (start now : S) (waiting : List ℕ) (left left_now contents contents_now : Option (List ℕ))
    → now ≡ start → left_now ≡ left → Appends contents contents_now waiting → Going adds start waiting left contents now left_now contents_now
begins adds start now waiting left left_now contents contents_now same kept wrote =
    subst (λ s. Going adds start waiting left contents s left_now contents_now) (sym same)
    (subst (λ l. Going adds start waiting left contents start l contents_now) (sym kept)
    (record { read = []; added = []; taken = Consumes-nil left; goes_on = GoesOn.none; written = subst (Appends contents contents_now) (sym (append-nil waiting)) wrote }))

-- after a feed after which more may come, once what it gave is written
pub goes_more : {S : Type 0} (adds : S → List ℕ → Result Fed NoMemory → List ℕ → S → Type 0) (start now next : S) (waiting : List ℕ) (left left_now left_next contents contents_now contents_next : Option (List ℕ)) (piece more : List ℕ)
    → Going adds start waiting left contents now left_now contents_now → Consumes left_now left_next piece → adds now piece (Ok fed.Running) more next
    → Appends contents_now contents_next more → Going adds start waiting left contents next left_next contents_next
goes_more adds start now next waiting left left_now left_next contents contents_now contents_next piece more h took feeds wrote = record {
  read = h.read ++ piece;
  added = h.added ++ more;
  taken = Consumes-trans left left_now left_next h.read piece h.taken took;
  goes_on = GoesOn.more h.read piece h.added more now next h.goes_on feeds;
  written = subst (Appends contents contents_next) (append_assoc waiting h.added more) (Appends-trans contents contents_now contents_next (waiting ++ h.added) more h.written wrote);
}

-- after a last feed with this answer
pub ends_by : {S : Type 0} (adds : S → List ℕ → Result Fed NoMemory → List ℕ → S → Type 0) (start now next : S) (read added piece more : List ℕ) (answer : Result Fed NoMemory)
    → GoesOn adds start read added now → adds now piece answer more next → EndsBy adds start (read ++ piece) (added ++ more) answer next
ends_by adds start now next read added piece more answer goes_on feeds = record {
  before = read;
  piece = piece;
  given = added;
  last = more;
  middle = now;
  read_is = refl;
  added_is = refl;
  goes_on = goes_on;
  ends = feeds;
}

pub all_more : (waiting added more : List ℕ) (a b c : Option (List ℕ)) → Appends a b (waiting ++ added) → Appends b c more → Appends a c (waiting ++ (added ++ more))
all_more waiting added more a b c before after = subst (Appends a c) (append_assoc waiting added more) (Appends-trans a b c (waiting ++ added) more before after)

pub front_more_of : (waiting added more : List ℕ) (a b c : Option (List ℕ)) → Appends a b (waiting ++ added) → AppendsFront b c more → AppendsFront a c (waiting ++ (added ++ more))
front_more_of waiting added more a b c before after = subst (AppendsFront a c) (append_assoc waiting added more) (front_more (waiting ++ added) more a b c before after)

-- the machine ended, and all that it gave is written
pub serves_unbound : {S : Type 0} (adds : S → List ℕ → Result Fed NoMemory → List ℕ → S → Type 0) (start now next : S) (waiting : List ℕ) (left left_now left_next contents contents_now contents_next : Option (List ℕ)) (piece more : List ℕ)
    → Going adds start waiting left contents now left_now contents_now → Consumes left_now left_next piece → adds now piece (Ok fed.Unbound) more next
    → Appends contents_now contents_next more → Serves adds start waiting left contents (Ok Unbound) next left_next contents_next
serves_unbound adds start now next waiting left left_now left_next contents contents_now contents_next piece more h took feeds wrote = record {
  read = h.read ++ piece;
  added = h.added ++ more;
  taken = Consumes-trans left left_now left_next h.read piece h.taken took;
  fed = ends_by adds start now next h.read h.added piece more (Ok fed.Unbound) h.goes_on feeds;
  written = all_more waiting h.added more contents contents_now contents_next h.written wrote;
  at_end = tt;
}

pub serves_bad : {S : Type 0} (adds : S → List ℕ → Result Fed NoMemory → List ℕ → S → Type 0) (start now next : S) (waiting : List ℕ) (left left_now left_next contents contents_now contents_next : Option (List ℕ)) (piece more : List ℕ) (place : ℕ)
    → Going adds start waiting left contents now left_now contents_now → Consumes left_now left_next piece → adds now piece (Ok (fed.BadBytes place)) more next
    → Appends contents_now contents_next more → Serves adds start waiting left contents (Ok (BadBytes place)) next left_next contents_next
serves_bad adds start now next waiting left left_now left_next contents contents_now contents_next piece more place h took feeds wrote = record {
  read = h.read ++ piece;
  added = h.added ++ more;
  taken = Consumes-trans left left_now left_next h.read piece h.taken took;
  fed = ends_by adds start now next h.read h.added piece more (Ok (fed.BadBytes place)) h.goes_on feeds;
  written = all_more waiting h.added more contents contents_now contents_next h.written wrote;
  at_end = tt;
}

-- a write failed after this feed
pub serves_front : {S : Type 0} (adds : S → List ℕ → Result Fed NoMemory → List ℕ → S → Type 0) (start now next : S) (waiting : List ℕ) (left left_now left_next contents contents_now contents_next : Option (List ℕ)) (piece more : List ℕ) (answer : Fed)
    → Going adds start waiting left contents now left_now contents_now → Consumes left_now left_next piece → adds now piece (Ok answer) more next
    → AppendsFront contents_now contents_next more → Serves adds start waiting left contents (Ok WriteFault) next left_next contents_next
serves_front adds start now next waiting left left_now left_next contents contents_now contents_next piece more answer h took feeds wrote = record {
  read = h.read ++ piece;
  added = h.added ++ more;
  taken = Consumes-trans left left_now left_next h.read piece h.taken took;
  fed = inr (answer, ends_by adds start now next h.read h.added piece more (Ok answer) h.goes_on feeds);
  written = front_more_of waiting h.added more contents contents_now contents_next h.written wrote;
  at_end = tt;
}

-- memory ran out in this feed
pub serves_short : {S : Type 0} (adds : S → List ℕ → Result Fed NoMemory → List ℕ → S → Type 0) (start now next : S) (waiting : List ℕ) (left left_now left_next contents contents_now : Option (List ℕ)) (piece more : List ℕ) (short : NoMemory)
    → Going adds start waiting left contents now left_now contents_now → Consumes left_now left_next piece → adds now piece (Err short) more next
    → Serves adds start waiting left contents (Err short) next left_next contents_now
serves_short adds start now next waiting left left_now left_next contents contents_now piece more short h took feeds = record {
  read = h.read ++ piece;
  added = h.added ++ more;
  taken = Consumes-trans left left_now left_next h.read piece h.taken took;
  fed = inr (ends_by adds start now next h.read h.added piece more (Err short) h.goes_on feeds);
  written = (waiting ++ h.added, more, sym (append_assoc waiting h.added more), h.written);
  at_end = tt;
}

-- the stream has ended
pub serves_end : {S : Type 0} (adds : S → List ℕ → Result Fed NoMemory → List ℕ → S → Type 0) (start now : S) (waiting : List ℕ) (left left_now left_next contents contents_now : Option (List ℕ)) (buf : List ℕ)
    → Going adds start waiting left contents now left_now contents_now → 0 < length buf → ReadConsumes {E = Unit {0}} left_now left_next (Ok 0) buf
    → Serves adds start waiting left contents (Ok Ended) now left_next contents_now
serves_end adds start now waiting left left_now left_next contents contents_now buf h room took = record {
  read = h.read ++ [];
  added = h.added;
  taken = Consumes-trans left left_now left_next h.read [] h.taken took.0;
  fed = subst (λ l. GoesOn adds start l h.added now) (sym (append-nil h.read)) h.goes_on;
  written = h.written;
  at_end = took.1 refl room;
}

-- a read failed
pub serves_read_fault : {S : Type 0} (adds : S → List ℕ → Result Fed NoMemory → List ℕ → S → Type 0) (start now : S) (waiting : List ℕ) (left left_now left_next contents contents_now : Option (List ℕ))
    → Going adds start waiting left contents now left_now contents_now → Keeps left_now left_next → Serves adds start waiting left contents (Ok ReadFault) now left_next contents_now
serves_read_fault adds start now waiting left left_now left_next contents contents_now h kept = record {
  read = h.read;
  added = h.added;
  taken = Consumes-kept left left_now left_next h.read h.taken kept;
  fed = h.goes_on;
  written = h.written;
  at_end = tt;
}

-- the first write failed
pub serves_none_front : {S : Type 0} (adds : S → List ℕ → Result Fed NoMemory → List ℕ → S → Type 0) (start now : S) (waiting : List ℕ) (left left_now contents contents_now : Option (List ℕ))
    → now ≡ start → left_now ≡ left → AppendsFront contents contents_now waiting → Serves adds start waiting left contents (Ok WriteFault) now left_now contents_now
serves_none_front adds start now waiting left left_now contents contents_now same kept wrote =
    subst (λ s. Serves adds start waiting left contents (Ok WriteFault) s left_now contents_now) (sym same)
    (subst (λ l. Serves adds start waiting left contents (Ok WriteFault) start l contents_now) (sym kept)
    (record { read = []; added = []; taken = Consumes-nil left; fed = inl GoesOn.none; written = subst (AppendsFront contents contents_now) (sym (append-nil waiting)) wrote; at_end = tt }))

-- memory ran out before anything was done
pub serves_nothing : {S : Type 0} (adds : S → List ℕ → Result Fed NoMemory → List ℕ → S → Type 0) (start : S) (waiting : List ℕ) (left contents : Option (List ℕ)) (short : NoMemory)
    → Serves adds start waiting left contents (Err short) start left contents
serves_nothing adds start waiting left contents short = record {
  read = [];
  added = [];
  taken = Consumes-nil left;
  fed = inl GoesOn.none;
  written = ([], waiting ++ [], refl, Appends-nil contents);
  at_end = tt;
}

-- One turn: a piece was read, it was fed with this answer, and these bytes wait then.
pub record Turned {S : Type 0} (adds : S → List ℕ → Result Fed NoMemory → List ℕ → S → Type 0) (start : S) (waiting : List ℕ) (left contents : Option (List ℕ)) (answer : Result Fed NoMemory) (waits : List ℕ) (next : S) (left_next contents_now : Option (List ℕ)) : Type 0 where
  pub now : S
  pub left_now : Option (List ℕ)
  pub piece : List ℕ
  pub more : List ℕ
  pub going : Going adds start waiting left contents now left_now contents_now
  pub took : Consumes left_now left_next piece
  pub feeds : adds now piece answer more next
  pub waits_is : waits ≡ more

pub turned : {S : Type 0} (adds : S → List ℕ → Result Fed NoMemory → List ℕ → S → Type 0) (start now fednow next : S) (waiting : List ℕ) (left left_now left_read left_next contents contents_now contents_read : Option (List ℕ)) (piece waits_now waits : List ℕ) (answer : Result Fed NoMemory)
    → Going adds start waiting left contents now left_now contents_now → contents_read ≡ contents_now → Consumes left_now left_read piece → waits_now ≡ []
    → ((more : List ℕ) × (waits ≡ waits_now ++ more) × adds now piece answer more fednow) → next ≡ fednow → left_next ≡ left_read
    → Turned adds start waiting left contents answer waits next left_next contents_read
turned adds start now fednow next waiting left left_now left_read left_next contents contents_now contents_read piece waits_now waits answer h kept took none (more, gave, feeds) same left_same = record {
  now = now;
  left_now = left_now;
  piece = piece;
  more = more;
  going = subst (Going adds start waiting left contents now left_now) (sym kept) h;
  took = subst (λ l. Consumes left_now l piece) (sym left_same) took;
  feeds = subst (adds now piece answer more) (sym same) feeds;
  waits_is = gave ∙ ap (λ l. l ++ more) none;
}

pub turn_more : {S : Type 0} (adds : S → List ℕ → Result Fed NoMemory → List ℕ → S → Type 0) (start next : S) (waiting : List ℕ) (left left_next contents contents_now contents_next : Option (List ℕ)) (waits : List ℕ)
    → Turned adds start waiting left contents (Ok fed.Running) waits next left_next contents_now → Appends contents_now contents_next waits → Going adds start waiting left contents next left_next contents_next
turn_more adds start next waiting left left_next contents contents_now contents_next waits t wrote =
    goes_more adds start t.now next waiting left t.left_now left_next contents contents_now contents_next t.piece t.more t.going t.took t.feeds (subst (Appends contents_now contents_next) t.waits_is wrote)

pub turn_unbound : {S : Type 0} (adds : S → List ℕ → Result Fed NoMemory → List ℕ → S → Type 0) (start next : S) (waiting : List ℕ) (left left_next contents contents_now contents_next : Option (List ℕ)) (waits : List ℕ)
    → Turned adds start waiting left contents (Ok fed.Unbound) waits next left_next contents_now → Appends contents_now contents_next waits → Serves adds start waiting left contents (Ok Unbound) next left_next contents_next
turn_unbound adds start next waiting left left_next contents contents_now contents_next waits t wrote =
    serves_unbound adds start t.now next waiting left t.left_now left_next contents contents_now contents_next t.piece t.more t.going t.took t.feeds (subst (Appends contents_now contents_next) t.waits_is wrote)

pub turn_bad : {S : Type 0} (adds : S → List ℕ → Result Fed NoMemory → List ℕ → S → Type 0) (start next : S) (waiting : List ℕ) (left left_next contents contents_now contents_next : Option (List ℕ)) (waits : List ℕ) (place : ℕ)
    → Turned adds start waiting left contents (Ok (fed.BadBytes place)) waits next left_next contents_now → Appends contents_now contents_next waits → Serves adds start waiting left contents (Ok (BadBytes place)) next left_next contents_next
turn_bad adds start next waiting left left_next contents contents_now contents_next waits place t wrote =
    serves_bad adds start t.now next waiting left t.left_now left_next contents contents_now contents_next t.piece t.more place t.going t.took t.feeds (subst (Appends contents_now contents_next) t.waits_is wrote)

pub turn_front : {S : Type 0} (adds : S → List ℕ → Result Fed NoMemory → List ℕ → S → Type 0) (start next : S) (waiting : List ℕ) (left left_next contents contents_now contents_next : Option (List ℕ)) (waits : List ℕ) (answer : Fed)
    → Turned adds start waiting left contents (Ok answer) waits next left_next contents_now → AppendsFront contents_now contents_next waits → Serves adds start waiting left contents (Ok WriteFault) next left_next contents_next
turn_front adds start next waiting left left_next contents contents_now contents_next waits answer t wrote =
    serves_front adds start t.now next waiting left t.left_now left_next contents contents_now contents_next t.piece t.more answer t.going t.took t.feeds (subst (AppendsFront contents_now contents_next) t.waits_is wrote)

pub turn_short : {S : Type 0} (adds : S → List ℕ → Result Fed NoMemory → List ℕ → S → Type 0) (start next : S) (waiting : List ℕ) (left left_next contents contents_now : Option (List ℕ)) (waits : List ℕ) (short : NoMemory)
    → Turned adds start waiting left contents (Err short) waits next left_next contents_now → Serves adds start waiting left contents (Err short) next left_next contents_now
turn_short adds start next waiting left left_next contents contents_now waits short t =
    serves_short adds start t.now next waiting left t.left_now left_next contents contents_now t.piece t.more short t.going t.took t.feeds
