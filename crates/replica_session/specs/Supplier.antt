-- The supplier's side of a session: what a reply means, and what is done when it is heard.
use Rattle.std.specs.Prelude.{◌≡◌, ◌⊎◌, ℕ, ◌+◌, ◌-◌, ◌^◌, ◌==◌, min, List, Option, Some, None, Result, Ok, Err, if◌then◌else◌}
use Rattle.repl_data.specs.declared.csn.Csn.{Csn}
use Rattle.repl_data.specs.declared.change.Body.{Body}
use Rattle.repl_data.specs.declared.change.Body.TheVariants as body
use Rattle.repl_data.specs.declared.items.NoMemory.{NoMemory}
use Rattle.ldap_types.specs.declared.reply.Reply.{Reply}
use Rattle.ldap_types.specs.declared.reply.ReplyOp.{ReplyOp}
use Rattle.ldap_types.specs.declared.reply.ReplyOp.TheVariants as reply
use Rattle.ldap_types.specs.declared.reply.LdapResult.{LdapResult}
use Rattle.vector_core.specs.declared.answers.Offer.{Offer}
use Rattle.vector_core.specs.declared.answers.Offer.TheVariants as offered
use Rattle.vector_core.specs.Vector.{IsRaised}
use Rattle.repl_wire.specs.declared.fault.WireFault.{WireFault}
use Rattle.repl_wire.specs.Form.{start_bytes, end_bytes}
use Rattle.repl_wire.specs.UpdateForm.{update_bytes}
use Rattle.repl_wire.specs.Reading.{started_of}
use Rattle.replica_session.specs.declared.supplier.SessionEnd.TheVariants.{Done, Refused, Strange}
use Rattle.replica_session.specs.declared.supplier.SupplyStep.{SupplyStep}
use Rattle.replica_session.specs.declared.supplier.SupplyStep.TheVariants.{Send, Ended}
use Rattle.replica_session.specs.declared.supplier.Kind.{Kind}
use Rattle.replica_session.specs.declared.supplier.Kind.TheVariants as kind
use Rattle.replica_session.specs.declared.supplier.Awaited.{Awaited}
use Rattle.replica_session.specs.declared.supplier.Awaited.TheVariants as awaited
use Rattle.replica_session.specs.declared.supplier.Heard.{Heard}
use Rattle.replica_session.specs.declared.supplier.Heard.TheVariants.{Over, Bound, Started, Taken}
use Rattle.replica_session.specs.declared.supplier.Supplier.{Supplier}
use Rattle.replica_session.specs.Calls.{Supplying}
use Rattle.replica_session.specs.Messages.{next_id}

-- ---- which reply answers the last message

-- the kind of write that a change travels as (RFC 4511, sections 4.6 to 4.9)
abbrev pub kind_of : Body → Kind
kind_of (body.Add parent rdn attrs) = kind.Add
kind_of (body.Mod mods) = kind.Modify
kind_of (body.Ren rdn dropped) = kind.Rename
kind_of body.Del = kind.Delete

abbrev pub written_result : Kind → ReplyOp → Option LdapResult
written_result kind.Add (reply.Add r) = Some r
written_result kind.Modify (reply.Modify r) = Some r
written_result kind.Rename (reply.Rename r) = Some r
written_result kind.Delete (reply.Delete r) = Some r
written_result _ _ = None

abbrev pub bound_result : ReplyOp → Option LdapResult
bound_result (reply.Bind r) = Some r
bound_result _ = None

abbrev pub extended_result : ReplyOp → Option LdapResult
extended_result (reply.Extended r oid value) = Some r
extended_result _ = None

-- the number of the message that has no answer yet
abbrev pub awaited_id : Awaited → ℕ
awaited_id awaited.Nothing = 0
awaited_id awaited.Bind = 1
awaited_id awaited.Start = 2
awaited_id (awaited.Update id k) = id
awaited_id (awaited.End id) = id

-- the result in a reply of the kind that answers it
abbrev pub awaited_result : Awaited → ReplyOp → Option LdapResult
awaited_result awaited.Nothing op = None
awaited_result awaited.Bind op = bound_result op
awaited_result awaited.Start op = extended_result op
awaited_result (awaited.Update id k) op = written_result k op
awaited_result (awaited.End id) op = extended_result op

-- a reply answers the last message where it has its number and is of its kind: then this is its result
abbrev pub fitting : Awaited → Reply → Option LdapResult
fitting w r = if r.id == awaited_id w then awaited_result w r.op else None

-- ---- what a reply means

abbrev pub started_with : Result (List Csn) WireFault → Heard
started_with (Ok vector) = Started vector
started_with (Err fault) = Over Strange

abbrev pub started_heard : Reply → Heard
started_heard r = started_with (started_of r)

-- the code 0, where so many updates were taken before
abbrev pub accepted : Awaited → ℕ → Reply → Heard
accepted awaited.Nothing sent r = Over Strange
accepted awaited.Bind sent r = Bound
accepted awaited.Start sent r = started_heard r
accepted (awaited.Update id k) sent r = Taken (next_id id)
accepted (awaited.End id) sent r = Over (Done sent)

abbrev pub heard_with : Awaited → ℕ → Reply → Option LdapResult → Heard
heard_with w sent r (Some answer) = if answer.code.number == 0 then accepted w sent r else Over (Refused answer sent)
heard_with w sent r None = Over Strange

-- WHAT A REPLY MEANS where this message has no answer yet
abbrev pub heard : Awaited → ℕ → Reply → Heard
heard w sent r = heard_with w sent r (fitting w r)

-- ---- what is sent

-- the message for what the supply has, and what is awaited then
abbrev pub message : ℕ → ℕ → Offer → (List ℕ × Awaited)
message rid id (offered.Next u) = (update_bytes id u, awaited.Update id (kind_of u.change.body))
message rid id offered.Done = (end_bytes id (record { rid = rid }), awaited.End id)

-- the cursor is raised by an update
abbrev pub IsPast : List Csn → List Csn → Offer → Type 0
IsPast old new (offered.Next u) = IsRaised old new u.change.csn
IsPast old new offered.Done = new ≡ old

-- THE NEXT MESSAGE: what the supply has beyond the cursor, which is raised by it
pub record IsNext {S : Type 0} (c : Supplying S) (rid id : ℕ) (cursor : List Csn) (old : S) (sent : List ℕ × Awaited) (raised : List Csn) (new : S) : Type 0 where
  pub offer : Offer
  pub offered : c.offers old cursor (Ok offer) new
  pub sends : sent ≡ message rid id offer
  pub past : IsPast cursor raised offer

-- one more; the count stands still at its end
abbrev pub one_more : ℕ → ℕ
one_more n = min (n + 1) (2 ^ 64 - 1)

-- begun anew
abbrev pub begun : Supplier → Supplier
begun s = record s { awaited = awaited.Bind; sent = 0 }

-- THE START is sent, with the vector that the supply has
pub record SendsStart {S : Type 0} (c : Supplying S) (old : Supplier) (supply : S) (bytes : List ℕ) (new : Supplier) (after : S) : Type 0 where
  pub front : List Csn
  pub told : c.fronts supply (Ok front) after
  pub sends : bytes ≡ start_bytes 2 (record { suffix = old.suffix; rid = old.rid; front = front })
  pub state : new ≡ record old { awaited = awaited.Start }

-- THE NEXT MESSAGE is sent, with this number, from this cursor, where so many updates were taken
pub record SendsNext {S : Type 0} (c : Supplying S) (cursor : List Csn) (sent id : ℕ) (old : Supplier) (supply : S) (bytes : List ℕ) (new : Supplier) (after : S) : Type 0 where
  pub next : IsNext c old.rid id cursor supply (bytes, new.awaited) new.cursor after
  pub state : new ≡ record old { awaited = new.awaited; cursor = new.cursor; sent = sent }

abbrev pub SendsStartSo : {S : Type 0} → Supplying S → Supplier → S → SupplyStep → Supplier → S → Type 0
SendsStartSo c old supply (Send bytes) new after = SendsStart c old supply bytes new after
SendsStartSo c old supply (Ended end) new after = ⊥

abbrev pub SendsNextSo : {S : Type 0} → Supplying S → List Csn → ℕ → ℕ → Supplier → S → SupplyStep → Supplier → S → Type 0
SendsNextSo c cursor sent id old supply (Send bytes) new after = SendsNext c cursor sent id old supply bytes new after
SendsNextSo c cursor sent id old supply (Ended end) new after = ⊥

-- WHAT IS DONE when a reply is heard that means this
abbrev pub HearsSo : {S : Type 0} → Supplying S → Supplier → S → Heard → SupplyStep → Supplier → S → Type 0
HearsSo c old supply (Over end) step new after = (step ≡ Ended end) × (new ≡ record old { awaited = awaited.Nothing }) × (after ≡ supply)
HearsSo c old supply Bound step new after = SendsStartSo c old supply step new after
HearsSo c old supply (Started vector) step new after = SendsNextSo c vector 0 3 old supply step new after
HearsSo c old supply (Taken id) step new after = SendsNextSo c old.cursor (one_more old.sent) id old supply step new after

-- ---- what may have been asked where memory ran out

abbrev pub AsksFront : {S : Type 0} → Supplying S → S → S → Type 0
AsksFront c old new = (answer : Result (List Csn) NoMemory) × c.fronts old answer new

abbrev pub AsksNext : {S : Type 0} → Supplying S → List Csn → S → S → Type 0
AsksNext c cursor old new = (answer : Result Offer NoMemory) × c.offers old cursor answer new

-- nothing, or the one question
abbrev pub Asks : {S : Type 0} → Supplying S → S → S → Type 0
Asks c old new = (new ≡ old) ⊎ AsksFront c old new ⊎ ((cursor : List Csn) × AsksNext c cursor old new)
