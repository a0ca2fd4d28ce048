-- The consumer's side of a session: what it answers to each message, and what it asks its node.
use Rattle.std.specs.Prelude.{◌≡◌, ◌⊎◌, ℕ, Bool, true, false, List, bytes_eq, Option, Some, None, Result, Ok, Err}
use Rattle.repl_data.specs.declared.csn.Csn.{Csn}
use Rattle.repl_data.specs.declared.change.Update.{Update}
use Rattle.repl_data.specs.declared.items.NoMemory.{NoMemory}
use Rattle.ldap_types.specs.declared.request.Request.{Request}
use Rattle.ldap_types.specs.declared.request.Op.{Op}
use Rattle.ldap_types.specs.declared.request.Op.TheVariants as op
use Rattle.ldap_types.specs.declared.reply.Reply.{Reply}
use Rattle.ldap_types.specs.declared.reply.LdapResult.{LdapResult}
use Rattle.vector_core.specs.declared.answers.Start.{Start}
use Rattle.vector_core.specs.declared.answers.Applied.{Applied}
use Rattle.vector_core.specs.declared.answers.ApplyFault.{ApplyFault}
use Rattle.vector_core.specs.declared.answers.AcquireFault.{AcquireFault}
use Rattle.repl_wire.specs.declared.fault.WireFault.{WireFault}
use Rattle.repl_wire.specs.declared.session.End.{End}
use Rattle.repl_wire.specs.Form.{start_name, started_reply}
use Rattle.repl_wire.specs.Reading.{start_of, end_of}
use Rattle.repl_wire.specs.Update.{update_of}
use Rattle.replica_session.specs.declared.consumer.Consumer.{Consumer}
use Rattle.replica_session.specs.Calls.{Taking}
use Rattle.replica_session.specs.Answers.{apply_result, acquire_result, reply_op, unreadable, not_holder, success, IsFault}

-- ---- replies

abbrev pub reply_with : Request → LdapResult → Reply
reply_with r told = record { id = r.id; op = reply_op r.op told }

-- a request with the name of a start; any other extended one is taken for an end
abbrev pub is_start : Op → Bool
is_start (op.Extended oid value) = bytes_eq oid start_name
is_start _ = false

abbrev pub is_extended : Op → Bool
is_extended (op.Extended oid value) = true
is_extended _ = false

-- AN END, which changes nothing
abbrev pub end_reply_with : Request → Result End WireFault → Reply
end_reply_with r (Ok end) = reply_with r success
end_reply_with r (Err fault) = reply_with r unreadable

abbrev pub end_reply : Request → Reply
end_reply r = end_reply_with r (end_of r)

-- ---- starts

-- what follows the node's answer: where it accepts, the vector that it has then, and the supplier is noted
abbrev pub IsAcquired : {T : Type 0} → Taking T → Request → Start → Consumer → Reply → Consumer → T → Result Unit AcquireFault → T → Type 0
IsAcquired c r s old reply new middle (Ok done) after =
    (vector : List Csn) × c.fronts middle (Ok vector) after × (reply ≡ started_reply r.id vector) × (new ≡ record { from = Some s.rid })
IsAcquired c r s old reply new middle (Err fault) after =
    (told : LdapResult) × (acquire_result fault ≡ Some told) × (reply ≡ reply_with r told) × (new ≡ old) × (after ≡ middle)

-- A START is put to the node, and answered by what it says
abbrev pub Starts : {T : Type 0} → Taking T → Request → Start → ℕ → Consumer → T → Reply → Consumer → T → Type 0
Starts {T} c r s now old take reply new after =
    (answer : Result Unit AcquireFault) × (middle : T) × c.acquires take s now answer middle × IsAcquired c r s old reply new middle answer after

abbrev pub StartsSo : {T : Type 0} → Taking T → Request → ℕ → Consumer → T → Reply → Consumer → T → Result Start WireFault → Type 0
StartsSo c r now old take reply new after (Ok s) = Starts c r s now old take reply new after
StartsSo c r now old take reply new after (Err fault) = (reply ≡ reply_with r unreadable) × (new ≡ old) × (after ≡ take)

-- ---- updates

-- AN UPDATE is put to the node, as one of the supplier that was noted, and answered by what the node says
abbrev pub Updates : {T : Type 0} → Taking T → Request → Update → ℕ → Option ℕ → T → Reply → T → Type 0
Updates c r u now (Some from) take reply after =
    (answer : Result Applied ApplyFault) × (told : LdapResult) × c.applies take from u now answer after × (apply_result answer ≡ Some told) × (reply ≡ reply_with r told)
Updates c r u now None take reply after = (reply ≡ reply_with r not_holder) × (after ≡ take)

abbrev pub UpdatesSo : {T : Type 0} → Taking T → Request → ℕ → Consumer → T → Reply → T → Result Update WireFault → Type 0
UpdatesSo c r now old take reply after (Ok u) = Updates c r u now old.from take reply after
UpdatesSo c r now old take reply after (Err fault) = (reply ≡ reply_with r unreadable) × (after ≡ take)

-- ---- any message

abbrev pub AnswersExtended : {T : Type 0} → Taking T → Request → ℕ → Consumer → T → Reply → Consumer → T → Bool → Type 0
AnswersExtended c r now old take reply new after true = (reply ≡ end_reply r) × (new ≡ old) × (after ≡ take)
AnswersExtended c r now old take reply new after false = UpdatesSo c r now old take reply after (update_of r) × (new ≡ old)

abbrev pub AnswersSo : {T : Type 0} → Taking T → Request → ℕ → Consumer → T → Reply → Consumer → T → Bool → Type 0
AnswersSo c r now old take reply new after true = StartsSo c r now old take reply new after (start_of r)
AnswersSo c r now old take reply new after false = AnswersExtended c r now old take reply new after (is_extended r.op)

-- WHAT A MESSAGE IS ANSWERED, what it leaves noted, and what it asks the node
abbrev pub Answers : {T : Type 0} → Taking T → Request → ℕ → Consumer → T → Reply → Consumer → T → Type 0
Answers c r now old take reply new after = AnswersSo c r now old take reply new after (is_start r.op)

-- ---- where memory ran out

-- before the node was asked; or it did not accept the start; or it did, and its supplier is noted
abbrev pub StarvesAtStart : {T : Type 0} → Taking T → Start → ℕ → Consumer → T → Consumer → T → Type 0
StarvesAtStart {T} c s now old take new after =
    ((fault : AcquireFault) × c.acquires take s now (Err fault) after × (new ≡ old))
    ⊎ ((middle : T) × (answer : Result (List Csn) NoMemory) × c.acquires take s now (Ok tt) middle × c.fronts middle answer after × (new ≡ record { from = Some s.rid }))

-- before the node was asked; or it did not take the update
abbrev pub StarvesAtUpdate : {T : Type 0} → Taking T → Update → ℕ → Option ℕ → T → T → Type 0
StarvesAtUpdate c u now (Some from) take after = (answer : Result Applied ApplyFault) × c.applies take from u now answer after × IsFault answer
StarvesAtUpdate c u now None take after = after ≡ take

pub data Starves {T : Type 0} (c : Taking T) (r : Request) (now : ℕ) (old : Consumer) (take : T) : Consumer → T → Type 0 where
  unasked : Starves c r now old take old take
  start : (s : Start) (new : Consumer) (after : T) → start_of r ≡ Ok s → StarvesAtStart c s now old take new after → Starves c r now old take new after
  update : (u : Update) (after : T) → update_of r ≡ Ok u → StarvesAtUpdate c u now old.from take after → Starves c r now old take old after
