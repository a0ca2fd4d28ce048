-- What a whole session is, from the bind on.
use Rattle.std.specs.Prelude.{◌≡◌, ◌≢◌, ◌≤◌, ◌⊎◌, ℕ, ◌-◌, ◌^◌, min, List, [], ◌∷◌, ◌++◌, length, Some, None, Result, Ok, Err}
use Rattle.repl_data.specs.declared.csn.Csn.{Csn}
use Rattle.repl_data.specs.declared.change.Update.{Update}
use Rattle.ldap_types.specs.declared.reply.Reply.{Reply}
use Rattle.ldap_types.specs.declared.reply.LdapResult.{LdapResult}
use Rattle.vector_core.specs.declared.answers.Offer.TheVariants as offered
use Rattle.vector_core.specs.declared.answers.Applied.{Applied}
use Rattle.vector_core.specs.declared.answers.ApplyFault.{ApplyFault}
use Rattle.vector_core.specs.declared.answers.AcquireFault.{AcquireFault}
use Rattle.ldap_requests.specs.Grammar.{request_at}
use Rattle.vector_core.specs.Vector.{IsRaised}
use Rattle.repl_wire.specs.declared.fault.WireFault.{WireFault}
use Rattle.repl_wire.specs.Form.{start_bytes, end_bytes}
use Rattle.repl_wire.specs.UpdateForm.{update_bytes}
use Rattle.repl_wire.specs.Reading.{started_of}
use Rattle.replica_session.specs.declared.supplier.SessionEnd.{SessionEnd}
use Rattle.replica_session.specs.declared.supplier.SessionEnd.TheVariants.{Done, Refused, Strange}
use Rattle.replica_session.specs.declared.supplier.SupplyStep.TheVariants.{Send, Ended}
use Rattle.replica_session.specs.declared.supplier.Awaited.{Awaited}
use Rattle.replica_session.specs.declared.supplier.Awaited.TheVariants as awaited
use Rattle.replica_session.specs.declared.supplier.Supplier.{Supplier}
use Rattle.replica_session.specs.Calls.{Supplying}
use Rattle.replica_session.specs.Messages.{next_id, bind_bytes, bind_request}
use Rattle.replica_session.specs.Answers.{apply_result, acquire_result}
use Rattle.replica_session.specs.Supplier.{kind_of, fitting, heard, HearsSo, begun, one_more}

-- ---- what happens

-- These replies were heard one after the other by a supplier whose bind was sent, and for each of them a message was sent.
pub data Talks {S : Type 0} (c : Supplying S) (start : Supplier) (supply : S) : List Reply → List (List ℕ) → Supplier → S → Type 0 where
  bound : Talks c start supply [] [] (begun start) supply
  more : (heard_so_far : List Reply) (sent : List (List ℕ)) (old new : Supplier) (a b : S) (r : Reply) (message : List ℕ)
      → Talks c start supply heard_so_far sent old a → HearsSo c old a (heard old.awaited old.sent r) (Send message) new b
      → Talks c start supply (heard_so_far ++ r ∷ []) (sent ++ message ∷ []) new b

-- ---- what it means

-- the reply answers this message, with the code 0
abbrev pub IsAccepted : Awaited → Reply → Type 0
IsAccepted w r = (answer : LdapResult) × (fitting w r ≡ Some answer) × (answer.code.number ≡ 0)

-- or with another one
abbrev pub IsRefused : Awaited → Reply → LdapResult → Type 0
IsRefused w r answer = (fitting w r ≡ Some answer) × (answer.code.number ≢ 0)

-- the start, with the vector that the supply had
abbrev pub start_message : Supplier → List Csn → List ℕ
start_message s front = start_bytes 2 (record { suffix = s.suffix; rid = s.rid; front = front })

-- UPDATES THAT WERE TAKEN. The replies were heard and the messages sent; these are the updates, in order, and so many
-- were counted. Each of them was what the supply had beyond the cursor, went out once all before it was answered, was
-- answered with 0, and raised the cursor, which began at the vector in the answer to the start.
pub data AreTaken {S : Type 0} (c : Supplying S) (s : Supplier) (supply : S) : List Reply → List (List ℕ) → List Update → ℕ → ℕ → List Csn → S → Type 0 where
  none : (bound started : Reply) (front vector : List Csn) (a : S) → IsAccepted awaited.Bind bound → c.fronts supply (Ok front) a
      → IsAccepted awaited.Start started → started_of started ≡ Ok vector
      → AreTaken c s supply (bound ∷ started ∷ []) (start_message s front ∷ []) [] 0 3 vector a
  more : (replies : List Reply) (sent : List (List ℕ)) (us : List Update) (n id : ℕ) (cursor raised : List Csn) (a b : S) (u : Update) (r : Reply)
      → AreTaken c s supply replies sent us n id cursor a
      → c.offers a cursor (Ok (offered.Next u)) b → IsRaised cursor raised u.change.csn → IsAccepted (awaited.Update id (kind_of u.change.body)) r
      → AreTaken c s supply (replies ++ r ∷ []) (sent ++ update_bytes id u ∷ []) (us ++ u ∷ []) (one_more n) (next_id id) raised b

-- WHERE A SESSION STANDS, by the message that has no answer yet
pub data Stands {S : Type 0} (c : Supplying S) (s : Supplier) (supply : S) : List Reply → List (List ℕ) → Awaited → ℕ → List Csn → S → Type 0 where
  -- the bind
  bound : (cursor : List Csn) → Stands c s supply [] [] awaited.Bind 0 cursor supply
  -- the start
  started : (bind_reply : Reply) (front cursor : List Csn) (a : S) → IsAccepted awaited.Bind bind_reply → c.fronts supply (Ok front) a
      → Stands c s supply (bind_reply ∷ []) (start_message s front ∷ []) awaited.Start 0 cursor a
  -- an update, which the supply has beyond the cursor, and by which the cursor was raised
  sends : (replies : List Reply) (sent : List (List ℕ)) (us : List Update) (n id : ℕ) (cursor raised : List Csn) (a b : S) (u : Update)
      → AreTaken c s supply replies sent us n id cursor a
      → c.offers a cursor (Ok (offered.Next u)) b → IsRaised cursor raised u.change.csn
      → Stands c s supply replies (sent ++ update_bytes id u ∷ []) (awaited.Update id (kind_of u.change.body)) n raised b
  -- the end: the supply has nothing beyond the cursor
  ends : (replies : List Reply) (sent : List (List ℕ)) (us : List Update) (n id : ℕ) (cursor : List Csn) (a b : S)
      → AreTaken c s supply replies sent us n id cursor a
      → c.offers a cursor (Ok offered.Done) b
      → Stands c s supply replies (sent ++ end_bytes id (record { rid = s.rid }) ∷ []) (awaited.End id) n cursor b

-- EVERY SESSION goes that way.
abbrev pub EverySessionStands : {S : Type 0} → Supplying S → Type 0
EverySessionStands {S} c =
    (s new : Supplier) (supply after : S) (replies : List Reply) (sent : List (List ℕ)) → Talks c s supply replies sent new after
    → Stands c s supply replies sent new.awaited new.sent new.cursor after × (new.rid ≡ s.rid) × (new.suffix ≡ s.suffix)

-- ---- the end

-- WHERE A REPLY ENDS A SESSION. Done: the end was answered with 0. Refused: the last message was answered with another
-- code. Strange: the reply answers another message, or accepts the start with a vector that can't be read.
abbrev pub EndsSo : Awaited → ℕ → Reply → SessionEnd → Type 0
EndsSo w n r (Done sent) = (id : ℕ) × (w ≡ awaited.End id) × IsAccepted w r × (sent ≡ n)
EndsSo w n r (Refused answer sent) = IsRefused w r answer × (sent ≡ n)
EndsSo w n r Strange = (fitting w r ≡ None) ⊎ ((w ≡ awaited.Start) × IsAccepted w r × ((fault : WireFault) × (started_of r ≡ Err fault)))

-- A session ends by a reply only so. (One that has not begun, or is over, ends as Strange by each.)
abbrev pub EverySessionEnds : {S : Type 0} → Supplying S → Type 0
EverySessionEnds {S} c =
    (old new : Supplier) (a b : S) (r : Reply) (end : SessionEnd) → HearsSo c old a (heard old.awaited old.sent r) (Ended end) new b
    → EndsSo old.awaited old.sent r end

-- ---- counts and numbers

-- as many as the updates that were taken; the count stands still at its end
abbrev pub CountsTaken : {S : Type 0} → Supplying S → Type 0
CountsTaken {S} c =
    (s : Supplier) (supply a : S) (replies : List Reply) (sent : List (List ℕ)) (us : List Update) (n id : ℕ) (cursor : List Csn)
    → AreTaken c s supply replies sent us n id cursor a → n ≡ min (length us) (2 ^ 64 - 1)

-- each message has a number that a request may have (RFC 4511, section 4.1.1), above those of the bind and the start
abbrev pub NumbersAreWithin : {S : Type 0} → Supplying S → Type 0
NumbersAreWithin {S} c =
    (s : Supplier) (supply a : S) (replies : List Reply) (sent : List (List ℕ)) (us : List Update) (n id : ℕ) (cursor : List Csn)
    → AreTaken c s supply replies sent us n id cursor a → (3 ≤ id) × (id ≤ 2147483647)

-- ---- the bind, and answers with 0

-- the bind is read by the reader of requests, whatever bytes follow
abbrev pub BindIsRead : Type 0
BindIsRead = (rest : List ℕ) → request_at 2097152 (bind_bytes ++ rest) ≡ Ok (bind_request, length bind_bytes)

-- An update is answered with 0 only where the node took it, or had taken it before. A start that the node does not accept
-- is answered with another code.
abbrev pub ZeroIsTaken : Type 0
ZeroIsTaken = (answer : Result Applied ApplyFault) (told : LdapResult) → apply_result answer ≡ Some told → told.code.number ≡ 0 → (applied : Applied) × (answer ≡ Ok applied)

abbrev pub RefusalIsTold : Type 0
RefusalIsTold = (fault : AcquireFault) (told : LdapResult) → acquire_result fault ≡ Some told → told.code.number ≢ 0
