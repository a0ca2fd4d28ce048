-- What a session over a stream reads and writes, and what its ends say.
use Rattle.std.specs.Prelude.{◌≡◌, ◌⊎◌, ℕ, ◌+◌, List, ◌++◌, length, Option, Ok}
use Rattle.std.specs.List.{concat, flat_map}
use Rattle.std.specs.Io.KnownBytes.{Appends, Consumes, IsAtEnd}
use Rattle.io_edge.specs.Causes.{Rose}
use Rattle.ldap_types.specs.declared.reply.Reply.{Reply}
use Rattle.ldap_replies.specs.Form.{reply_bytes}
use Rattle.replica_session.specs.declared.supplier.SessionEnd.{SessionEnd}
use Rattle.replica_session.specs.declared.supplier.SessionEnd.TheVariants.{Strange}
use Rattle.replica_session.specs.declared.supplier.Supplier.{Supplier}
use Rattle.replica_session.specs.Calls.{Supplying}
use Rattle.replica_session.specs.Laws.{EndsSo}
use Rattle.agreement_run.specs.declared.end.RunEnd.TheVariants as run
use Rattle.agreement_run.specs.Front.{BeginsWith}
use Rattle.agreement_run.specs.Sides.{Sides}
use Rattle.agreement_run.specs.Running.{TakesTurns, Goes, Runs}

-- ---- turns

-- What was written are the messages, one behind the other.
abbrev pub MessagesAreWritten : Type 0
MessagesAreWritten =
    (left contents left_now contents_now : Option (List ℕ)) (replies : List Reply) (messages : List (List ℕ)) (unheard : List ℕ)
    → TakesTurns left contents replies messages unheard left_now contents_now → Appends contents contents_now (concat messages)

-- What was read are the replies, one behind the other, and then the bytes that are not heard.
abbrev pub RepliesAreRead : Type 0
RepliesAreRead =
    (left contents left_now contents_now : Option (List ℕ)) (replies : List Reply) (messages : List (List ℕ)) (unheard : List ℕ)
    → TakesTurns left contents replies messages unheard left_now contents_now → Consumes left left_now (flat_map reply_bytes replies ++ unheard)

-- One message has no answer: the last one.
abbrev pub OneIsUnanswered : Type 0
OneIsUnanswered =
    (left contents left_now contents_now : Option (List ℕ)) (replies : List Reply) (messages : List (List ℕ)) (unheard : List ℕ)
    → TakesTurns left contents replies messages unheard left_now contents_now → length messages ≡ length replies + 1

-- ---- ends

-- the reply in front of what was read last ended the session so
pub record IsEndedBy {S : Type 0} (c : Supplying S) (start : Supplier) (supply : S) (old : Sides) (end : SessionEnd) (new : Sides) : Type 0 where
  pub supplier : Supplier
  pub asked : S
  pub unheard : List ℕ
  pub rest : List ℕ
  pub reply : Reply
  pub goes : Goes c start supply old supplier asked unheard new.left new.contents
  pub front : BeginsWith unheard reply rest
  pub ends : EndsSo supplier.awaited supplier.sent reply end

-- A session that does not end as Strange is ended by a reply: as Done by the answer to its end with the code 0, as Refused by an
-- answer to its last message with another code.
abbrev pub EveryEndIsAnswered : {S : Type 0} → Supplying S → Type 0
EveryEndIsAnswered {S} c =
    (start : Supplier) (supply after : S) (old new : Sides) (end : SessionEnd) → Runs c start supply old (Ok (run.Ended end)) after new
    → (end ≡ Strange) ⊎ IsEndedBy c start supply old end new

-- A session is lost only where a read or a write failed, or the stream has ended.
abbrev pub EveryLossHasACause : {S : Type 0} → Supplying S → Type 0
EveryLossHasACause {S} c =
    (start : Supplier) (supply after : S) (old new : Sides) → Runs c start supply old (Ok run.Lost) after new
    → Rose old.read_faults new.read_faults ⊎ Rose old.write_faults new.write_faults ⊎ IsAtEnd new.left
