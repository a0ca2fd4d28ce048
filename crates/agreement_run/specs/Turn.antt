-- What one turn of a session over a stream is: the reply to the last message is waited for and heard, and the next message is
-- written.
use Rattle.std.specs.Prelude.{◌≡◌, ◌≤◌, ◌⊎◌, ℕ, List, Option, Result, Ok, Err}
use Rattle.std.specs.Io.KnownBytes.{Appends, IsAtEnd}
use Rattle.repl_data.specs.declared.items.NoMemory.{NoMemory}
use Rattle.io_edge.specs.Causes.{Rose}
use Rattle.io_edge.specs.Edge.{AppendsFront}
use Rattle.ber_core.specs.declared.fault.NotLdapWhy.{NotLdapWhy}
use Rattle.ber_core.specs.Window.{More, Fault}
use Rattle.ldap_types.specs.declared.reply.Reply.{Reply}
use Rattle.ldap_replies.specs.Grammar.{reply_at}
use Rattle.replica_session.specs.declared.supplier.SupplyStep.{SupplyStep}
use Rattle.replica_session.specs.declared.supplier.SupplyStep.TheVariants as step
use Rattle.replica_session.specs.declared.supplier.Supplier.{Supplier}
use Rattle.replica_session.specs.Calls.{Supplying}
use Rattle.replica_session.specs.Supplier.{heard, HearsSo, Asks}
use Rattle.agreement_run.specs.declared.turn.Turn.{Turn}
use Rattle.agreement_run.specs.declared.turn.Turn.TheVariants as turn
use Rattle.agreement_run.specs.Front.{BeginsWith}
use Rattle.agreement_run.specs.Sides.{Sides}
use Rattle.agreement_run.specs.Waiting.{Comes}

-- What comes of a reply: the message that the supplier says then is written, or a front of it where the write failed; or the
-- reply ended the session.
abbrev pub AnswersSo : {S : Type 0} → Supplying S → Supplier → S → Reply → Option (List ℕ) → ℕ → Result Turn NoMemory → Supplier → S → Option (List ℕ) → ℕ → Type 0
AnswersSo c a x r contents before (Ok turn.Sent) b y written now = (message : List ℕ) × HearsSo c a x (heard a.awaited a.sent r) (step.Send message) b y × Appends contents written message
AnswersSo c a x r contents before (Ok (turn.Ended end)) b y written now = HearsSo c a x (heard a.awaited a.sent r) (step.Ended end) b y × (written ≡ contents)
AnswersSo c a x r contents before (Ok turn.NoReply) b y written now = ⊥
AnswersSo c a x r contents before (Ok turn.Unanswered) b y written now = ⊥
AnswersSo c a x r contents before (Ok turn.Unwritten) b y written now = (message : List ℕ) × HearsSo c a x (heard a.awaited a.sent r) (step.Send message) b y × AppendsFront contents written message × Rose before now
AnswersSo c a x r contents before (Err short) b y written now = Asks c x y × (written ≡ contents)

-- THE REPLY IS HEARD: one is in front of these bytes, with these others behind it, and the supplier takes this step.
pub record Hears {S : Type 0} (c : Supplying S) (a : Supplier) (x : S) (all : List ℕ) (does : SupplyStep) (b : Supplier) (y : S) (rest : List ℕ) : Type 0 where
  pub reply : Reply
  pub front : BeginsWith all reply rest
  pub hears : HearsSo c a x (heard a.awaited a.sent reply) does b y

-- How a turn goes of which all these bytes were read and not heard before. Where no reply is heard, the supply is not asked and
-- nothing is written: the bytes are no reply, or they want more and a read failed or the stream has ended.
abbrev pub GoesSo : {S : Type 0} → Supplying S → Supplier → S → List ℕ → Sides → Result Turn NoMemory → Supplier → S → List ℕ → Sides → Type 0
GoesSo c a x all old (Ok turn.Sent) b y rest new = (message : List ℕ) × Hears c a x all (step.Send message) b y rest × Appends old.contents new.contents message
GoesSo c a x all old (Ok (turn.Ended end)) b y rest new = Hears c a x all (step.Ended end) b y rest × (new.contents ≡ old.contents)
GoesSo c a x all old (Ok turn.NoReply) b y rest new = ((place : ℕ) × (why : NotLdapWhy) × (reply_at 2097152 all ≡ Err (Fault place why))) × (y ≡ x) × (new.contents ≡ old.contents)
GoesSo c a x all old (Ok turn.Unanswered) b y rest new = (reply_at 2097152 all ≡ Err More) × (Rose old.read_faults new.read_faults ⊎ IsAtEnd new.left) × (y ≡ x) × (new.contents ≡ old.contents)
GoesSo c a x all old (Ok turn.Unwritten) b y rest new = (message : List ℕ) × Hears c a x all (step.Send message) b y rest × AppendsFront old.contents new.contents message × Rose old.write_faults new.write_faults
GoesSo c a x all old (Err short) b y rest new = Asks c x y × (new.contents ≡ old.contents)

-- ONE TURN of a session that held these bytes. No count of faults falls.
pub record Turned {S : Type 0} (c : Supplying S) (a : Supplier) (x : S) (held : List ℕ) (old : Sides) (result : Result Turn NoMemory) (b : Supplier) (y : S) (rest : List ℕ) (new : Sides) : Type 0 where
  pub all : List ℕ
  pub comes : Comes held old.left all new.left
  pub goes : GoesSo c a x all old result b y rest new
  pub reads : old.read_faults ≤ new.read_faults
  pub writes : old.write_faults ≤ new.write_faults
