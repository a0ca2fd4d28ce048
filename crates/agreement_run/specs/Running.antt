-- What it means that a supplier's session runs over a stream.
use Rattle.std.specs.Prelude.{◌≡◌, ◌⊎◌, ℕ, List, [], ◌∷◌, ◌++◌, Option, Result, Ok, Err}
use Rattle.std.specs.Io.KnownBytes.{Appends, Consumes, IsAtEnd}
use Rattle.repl_data.specs.declared.items.NoMemory.{NoMemory}
use Rattle.io_edge.specs.Causes.{Rose}
use Rattle.io_edge.specs.Edge.{AppendsFront}
use Rattle.ber_core.specs.declared.fault.NotLdapWhy.{NotLdapWhy}
use Rattle.ber_core.specs.Window.{More, Fault}
use Rattle.ldap_types.specs.declared.reply.Reply.{Reply}
use Rattle.ldap_replies.specs.Grammar.{reply_at}
use Rattle.replica_session.specs.declared.supplier.SessionEnd.{SessionEnd}
use Rattle.replica_session.specs.declared.supplier.SessionEnd.TheVariants.{Strange}
use Rattle.replica_session.specs.declared.supplier.SupplyStep.TheVariants as step
use Rattle.replica_session.specs.declared.supplier.Awaited.TheVariants as awaited
use Rattle.replica_session.specs.declared.supplier.Supplier.{Supplier}
use Rattle.replica_session.specs.Calls.{Supplying}
use Rattle.replica_session.specs.Messages.{bind_bytes}
use Rattle.replica_session.specs.Supplier.{Asks}
use Rattle.replica_session.specs.Laws.{Talks}
use Rattle.agreement_run.specs.Front.{BeginsWith}
use Rattle.agreement_run.specs.Sides.{Sides}
use Rattle.agreement_run.specs.Turn.{Hears}
use Rattle.agreement_run.specs.declared.end.RunEnd.{RunEnd}
use Rattle.agreement_run.specs.declared.end.RunEnd.TheVariants as run

-- the supplier with this replica id and this suffix, before its session
abbrev pub new_supplier : ℕ → List ℕ → Supplier
new_supplier rid suffix = record { rid = rid; suffix = suffix; awaited = awaited.Nothing; cursor = []; sent = 0 }

-- TURNS OF MESSAGES AND REPLIES. These messages were written, in order, and these replies read, in whatever pieces; behind the
-- last of them these bytes. Each message but the first was written once all before it were answered.
pub data TakesTurns (left contents : Option (List ℕ)) : List Reply → List (List ℕ) → List ℕ → Option (List ℕ) → Option (List ℕ) → Type 0 where
  begins : (message : List ℕ) (now : Option (List ℕ)) → Appends contents now message
      → TakesTurns left contents [] (message ∷ []) [] left now
  reads : (replies : List Reply) (messages : List (List ℕ)) (unheard piece : List ℕ) (a b now : Option (List ℕ))
      → TakesTurns left contents replies messages unheard a now → Consumes a b piece
      → TakesTurns left contents replies messages (unheard ++ piece) b now
  answers : (replies : List Reply) (messages : List (List ℕ)) (unheard rest message : List ℕ) (r : Reply) (now a b : Option (List ℕ))
      → TakesTurns left contents replies messages unheard now a → BeginsWith unheard r rest → Appends a b message
      → TakesTurns left contents (replies ++ r ∷ []) (messages ++ message ∷ []) rest now b

-- A SESSION OVER A STREAM, SO FAR. What took turns are the bind and what the supplier says over its supply, and what it heard.
pub record Goes {S : Type 0} (c : Supplying S) (start : Supplier) (supply : S) (old : Sides) (now : Supplier) (asked : S) (unheard : List ℕ) (left contents : Option (List ℕ)) : Type 0 where
  pub replies : List Reply
  pub sent : List (List ℕ)
  pub talks : Talks c start supply replies sent now asked
  pub turns : TakesTurns old.left old.contents replies (bind_bytes ∷ sent) unheard left contents

-- HOW A SESSION OVER A STREAM ENDS
pub data Runs {S : Type 0} (c : Supplying S) (start : Supplier) (supply : S) (old : Sides) : Result RunEnd NoMemory → S → Sides → Type 0 where
  -- a reply ended it, as the supplier heard it
  heard_so : (a b : Supplier) (x y : S) (unheard rest : List ℕ) (end : SessionEnd) (new : Sides)
      → Goes c start supply old a x unheard new.left new.contents → Hears c a x unheard (step.Ended end) b y rest
      → Runs c start supply old (Ok (run.Ended end)) y new
  -- the bytes behind the last reply are no reply
  no_reply : (a : Supplier) (x : S) (unheard : List ℕ) (place : ℕ) (why : NotLdapWhy) (new : Sides)
      → Goes c start supply old a x unheard new.left new.contents → reply_at 2097152 unheard ≡ Err (Fault place why)
      → Runs c start supply old (Ok (run.Ended Strange)) x new
  -- there is no whole answer to the last message, and a read failed, or the stream has ended
  unanswered : (a : Supplier) (x : S) (unheard : List ℕ) (new : Sides)
      → Goes c start supply old a x unheard new.left new.contents → reply_at 2097152 unheard ≡ Err More
      → Rose old.read_faults new.read_faults ⊎ IsAtEnd new.left
      → Runs c start supply old (Ok run.Lost) x new
  -- a front of the bind was written, and the write failed
  unbound : (new : Sides)
      → AppendsFront old.contents new.contents bind_bytes → new.left ≡ old.left → Rose old.write_faults new.write_faults
      → Runs c start supply old (Ok run.Lost) supply new
  -- a front of the next message was written, and the write failed
  unwritten : (a b : Supplier) (x y : S) (unheard rest message : List ℕ) (contents : Option (List ℕ)) (new : Sides)
      → Goes c start supply old a x unheard new.left contents → Hears c a x unheard (step.Send message) b y rest
      → AppendsFront contents new.contents message → Rose old.write_faults new.write_faults
      → Runs c start supply old (Ok run.Lost) y new
  -- memory ran out before the bind
  short_at_once : (short : NoMemory) → Runs c start supply old (Err short) supply old
  -- or behind it: each message was written whole, and the supply may have been asked for another one
  short_later : (short : NoMemory) (a : Supplier) (x y : S) (unheard : List ℕ) (new : Sides)
      → Goes c start supply old a x unheard new.left new.contents → Asks c x y
      → Runs c start supply old (Err short) y new
