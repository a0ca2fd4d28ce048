-- What comes of waiting for a reply.
use Rattle.std.specs.Prelude.{◌≡◌, ◌⊎◌, ℕ, List, ◌++◌, Option, Result, Ok, Err}
use Rattle.std.specs.Io.KnownBytes.{Consumes, IsAtEnd}
use Rattle.repl_data.specs.declared.items.NoMemory.{NoMemory}
use Rattle.io_edge.specs.Causes.{Rose}
use Rattle.ber_core.specs.declared.fault.NotLdapWhy.{NotLdapWhy}
use Rattle.ber_core.specs.Window.{More, Fault}
use Rattle.ldap_replies.specs.Grammar.{reply_at}
use Rattle.agreement_run.specs.declared.inbox.Arrival.{Arrival}
use Rattle.agreement_run.specs.declared.inbox.Arrival.TheVariants as arrival
use Rattle.agreement_run.specs.declared.next.Next.{Next}
use Rattle.agreement_run.specs.declared.next.Next.TheVariants as next
use Rattle.agreement_run.specs.Front.{BeginsWith}

-- these bytes were held, and then these; what came is what is no longer left of the stream
pub record Comes (held : List ℕ) (left : Option (List ℕ)) (now : List ℕ) (left_now : Option (List ℕ)) : Type 0 where
  pub piece : List ℕ
  pub joined : now ≡ held ++ piece
  pub taken : Consumes left left_now piece

-- what one read says, beside what came
abbrev pub ArrivesSo : Result Arrival NoMemory → List ℕ → List ℕ → Option (List ℕ) → ℕ → ℕ → Type 0
ArrivesSo (Ok arrival.Bytes) old new left before now = Unit {0}
ArrivesSo (Ok arrival.End) old new left before now = (new ≡ old) × IsAtEnd left
ArrivesSo (Ok arrival.Fault) old new left before now = (new ≡ old) × Rose before now
ArrivesSo (Err short) old new left before now = Unit {0}

-- of these bytes: the reply that they begin with, and those behind it; or no reply begins with them; or none came whole
abbrev pub MeetsSo : Result Next NoMemory → List ℕ → List ℕ → Option (List ℕ) → ℕ → ℕ → Type 0
MeetsSo (Ok (next.Heard r)) all rest left before now = BeginsWith all r rest
MeetsSo (Ok next.NoReply) all rest left before now = (place : ℕ) × (why : NotLdapWhy) × (reply_at 2097152 all ≡ Err (Fault place why))
MeetsSo (Ok next.Unanswered) all rest left before now = (reply_at 2097152 all ≡ Err More) × (Rose before now ⊎ IsAtEnd left)
MeetsSo (Err short) all rest left before now = Unit {0}

-- WAITING FOR A REPLY, of these bytes that were held and what came behind them
pub record Meets (held : List ℕ) (left : Option (List ℕ)) (before : ℕ) (result : Result Next NoMemory) (rest : List ℕ) (left_now : Option (List ℕ)) (now : ℕ) : Type 0 where
  pub all : List ℕ
  pub comes : Comes held left all left_now
  pub meets : MeetsSo result all rest left_now before now
