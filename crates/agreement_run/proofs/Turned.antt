-- One turn of a session over a stream, and turns one behind the other.
use Rattle.std.proofs.Common.{◌≡◌, ◌≤◌, ℕ, List, Option, Result, Ok, Err, inl, refl, sym, subst, arith}
use Rattle.repl_data.specs.declared.items.NoMemory.{NoMemory}
use Rattle.io_edge.specs.Causes.{Rose}
use Rattle.io_edge.specs.Edge.{AppendsFront}
use Rattle.ldap_types.specs.declared.reply.Reply.{Reply}
use Rattle.replica_session.specs.declared.supplier.SessionEnd.{SessionEnd}
use Rattle.replica_session.specs.declared.supplier.SessionEnd.TheVariants.{Strange}
use Rattle.replica_session.specs.declared.supplier.Supplier.{Supplier}
use Rattle.replica_session.specs.Calls.{Supplying}
use Rattle.replica_session.specs.Messages.{bind_bytes}
use Rattle.agreement_run.specs.declared.end.RunEnd.TheVariants as run
use Rattle.agreement_run.specs.declared.next.Next.TheVariants as next
use Rattle.agreement_run.specs.declared.turn.Turn.{Turn}
use Rattle.agreement_run.specs.declared.turn.Turn.TheVariants as turn
use Rattle.agreement_run.specs.Front.{BeginsWith}
use Rattle.agreement_run.specs.Sides.{Sides, sides}
use Rattle.agreement_run.specs.Waiting.{Comes, Meets}
use Rattle.agreement_run.specs.Turn.{AnswersSo, GoesSo, Turned}
use Rattle.agreement_run.specs.Running.{Goes, Runs}
use Rattle.agreement_run.proofs.Going.{waits, goes_on}
use Rattle.agreement_run.proofs.Pieces.{rose_since, since}

-- ---- one turn

-- memory ran out before a reply was heard
pub turned_short : {S : Type 0} (c : Supplying S) (a : Supplier) (x : S) (held rest : List ℕ) (left left_now contents contents_now : Option (List ℕ)) (reads reads_now writes writes_now : ℕ) (failed short : NoMemory)
    → Meets held left reads (Err failed) rest left_now reads_now → reads ≤ reads_now → contents_now ≡ contents → writes_now ≡ writes
    → Turned c a x held (sides left contents reads writes) (Err short) a x rest (sides left_now contents_now reads_now writes_now)
turned_short c a x held rest left left_now contents contents_now reads reads_now writes writes_now failed short m later same calm = record {
  all = m.all;
  comes = m.comes;
  goes = (inl refl, same);
  reads = later;
  writes = omega (arith, calm);
}

-- what came is no reply
pub turned_no_reply : {S : Type 0} (c : Supplying S) (a : Supplier) (x : S) (held rest : List ℕ) (left left_now contents contents_now : Option (List ℕ)) (reads reads_now writes writes_now : ℕ)
    → Meets held left reads (Ok next.NoReply) rest left_now reads_now → reads ≤ reads_now → contents_now ≡ contents → writes_now ≡ writes
    → Turned c a x held (sides left contents reads writes) (Ok turn.NoReply) a x rest (sides left_now contents_now reads_now writes_now)
turned_no_reply c a x held rest left left_now contents contents_now reads reads_now writes writes_now m later same calm = record {
  all = m.all;
  comes = m.comes;
  goes = (m.meets, refl, same);
  reads = later;
  writes = omega (arith, calm);
}

-- no reply came
pub turned_unanswered : {S : Type 0} (c : Supplying S) (a : Supplier) (x : S) (held rest : List ℕ) (left left_now contents contents_now : Option (List ℕ)) (reads reads_now writes writes_now : ℕ)
    → Meets held left reads (Ok next.Unanswered) rest left_now reads_now → reads ≤ reads_now → contents_now ≡ contents → writes_now ≡ writes
    → Turned c a x held (sides left contents reads writes) (Ok turn.Unanswered) a x rest (sides left_now contents_now reads_now writes_now)
turned_unanswered c a x held rest left left_now contents contents_now reads reads_now writes writes_now m later same calm = record {
  all = m.all;
  comes = m.comes;
  goes = (m.meets.0, m.meets.1, refl, same);
  reads = later;
  writes = omega (arith, calm);
}

-- a reply was heard, and this came of it
goes_so : {S : Type 0} (c : Supplying S) (a b : Supplier) (x y : S) (all rest : List ℕ) (r : Reply) (result : Result Turn NoMemory) (old new : Sides)
    → BeginsWith all r rest → AnswersSo c a x r old.contents old.write_faults result b y new.contents new.write_faults
    → GoesSo c a x all old result b y rest new
goes_so c a b x y all rest r (Ok turn.Sent) old new front h = (h.0, record { reply = r; front = front; hears = h.1 }, h.2)
goes_so c a b x y all rest r (Ok (turn.Ended end)) old new front h = (record { reply = r; front = front; hears = h.0 }, h.1)
goes_so c a b x y all rest r (Ok turn.NoReply) old new front h = absurd h
goes_so c a b x y all rest r (Ok turn.Unanswered) old new front h = absurd h
goes_so c a b x y all rest r (Ok turn.Unwritten) old new front h = (h.0, record { reply = r; front = front; hears = h.1 }, h.2, h.3)
goes_so c a b x y all rest r (Err short) old new front h = h

pub turned_heard : {S : Type 0} (c : Supplying S) (a b : Supplier) (x y : S) (held rest : List ℕ) (r : Reply) (result : Result Turn NoMemory) (left left_now left_next contents contents_now contents_next : Option (List ℕ)) (reads reads_now reads_next writes writes_now writes_next : ℕ)
    → Meets held left reads (Ok (next.Heard r)) rest left_now reads_now → reads ≤ reads_now → contents_now ≡ contents → writes_now ≡ writes
    → AnswersSo c a x r contents_now writes_now result b y contents_next writes_next → writes_now ≤ writes_next
    → left_next ≡ left_now → reads_next ≡ reads_now
    → Turned c a x held (sides left contents reads writes) result b y rest (sides left_next contents_next reads_next writes_next)
turned_heard c a b x y held rest r result left left_now left_next contents contents_now contents_next reads reads_now reads_next writes writes_now writes_next m later same quiet answers after kept calm = record {
  all = m.all;
  comes = subst (λ (l : Option (List ℕ)). Comes held left m.all l) (sym kept) m.comes;
  goes = goes_so c a b x y m.all rest r result (sides left contents reads writes) (sides left_next contents_next reads_next writes_next) m.meets
      (subst (λ (k : Option (List ℕ)). AnswersSo c a x r k writes result b y contents_next writes_next) same
      (subst (λ (n : ℕ). AnswersSo c a x r contents_now n result b y contents_next writes_next) quiet answers));
  reads = omega (arith, later, calm);
  writes = omega (arith, quiet, after);
}

-- ---- turns one behind the other

-- a turn behind a session so far
module _ {S : Type 0} (c : Supplying S) (start a b : Supplier) (supply x y : S) (held rest : List ℕ) (old : Sides) (left left_next contents contents_next : Option (List ℕ)) (reads reads_next writes writes_next : ℕ) where
  -- before the reply was heard
  read_behind : (all : List ℕ) → Goes c start supply old a x held left contents → Comes held left all left_next → Goes c start supply old a x all left_next contents
  read_behind all h comes = waits c start a supply x old held all left left_next contents h comes

  -- where nothing was written
  same_behind : (all : List ℕ) → Goes c start supply old a x held left contents → Comes held left all left_next → contents_next ≡ contents → Goes c start supply old a x all left_next contents_next
  same_behind all h comes same = subst (λ (k : Option (List ℕ)). Goes c start supply old a x all left_next k) (sym same) (read_behind all h comes)

  pub joins_sent : Goes c start supply old a x held left contents
      → Turned c a x held (sides left contents reads writes) (Ok turn.Sent) b y rest (sides left_next contents_next reads_next writes_next)
      → Goes c start supply old b y rest left_next contents_next
  joins_sent h t = goes_on c start a b supply x y old t.all rest t.goes.0 left_next contents contents_next (read_behind t.all h t.comes) t.goes.1 t.goes.2

  pub joins_ended : (end : SessionEnd) → Goes c start supply old a x held left contents
      → Turned c a x held (sides left contents reads writes) (Ok (turn.Ended end)) b y rest (sides left_next contents_next reads_next writes_next)
      → Runs c start supply old (Ok (run.Ended end)) y (sides left_next contents_next reads_next writes_next)
  joins_ended end h t =
      Runs.heard_so a b x y t.all rest end (sides left_next contents_next reads_next writes_next) (same_behind t.all h t.comes t.goes.1) t.goes.0

  pub joins_no_reply : Goes c start supply old a x held left contents
      → Turned c a x held (sides left contents reads writes) (Ok turn.NoReply) b y rest (sides left_next contents_next reads_next writes_next)
      → Runs c start supply old (Ok (run.Ended Strange)) y (sides left_next contents_next reads_next writes_next)
  joins_no_reply h t =
      subst (λ (s : S). Runs c start supply old (Ok (run.Ended Strange)) s (sides left_next contents_next reads_next writes_next)) (sym t.goes.1)
      (Runs.no_reply a x t.all t.goes.0.0 t.goes.0.1 (sides left_next contents_next reads_next writes_next) (same_behind t.all h t.comes t.goes.2) t.goes.0.2)

  pub joins_unanswered : Goes c start supply old a x held left contents → old.read_faults ≤ reads
      → Turned c a x held (sides left contents reads writes) (Ok turn.Unanswered) b y rest (sides left_next contents_next reads_next writes_next)
      → Runs c start supply old (Ok run.Lost) y (sides left_next contents_next reads_next writes_next)
  joins_unanswered h later t =
      subst (λ (s : S). Runs c start supply old (Ok run.Lost) s (sides left_next contents_next reads_next writes_next)) (sym t.goes.2)
      (Runs.unanswered a x t.all (sides left_next contents_next reads_next writes_next) (same_behind t.all h t.comes t.goes.3) t.goes.0
      (since old.read_faults reads reads_next left_next later t.goes.1))

  pub joins_unwritten : Goes c start supply old a x held left contents → old.write_faults ≤ writes
      → Turned c a x held (sides left contents reads writes) (Ok turn.Unwritten) b y rest (sides left_next contents_next reads_next writes_next)
      → Runs c start supply old (Ok run.Lost) y (sides left_next contents_next reads_next writes_next)
  joins_unwritten h later t =
      Runs.unwritten a b x y t.all rest t.goes.0 contents (sides left_next contents_next reads_next writes_next) (read_behind t.all h t.comes) t.goes.1 t.goes.2
      (rose_since old.write_faults writes writes_next later t.goes.3)

  pub joins_short : (failed short : NoMemory) → Goes c start supply old a x held left contents
      → Turned c a x held (sides left contents reads writes) (Err failed) b y rest (sides left_next contents_next reads_next writes_next)
      → Runs c start supply old (Err short) y (sides left_next contents_next reads_next writes_next)
  joins_short failed short h t =
      Runs.short_later short a x y t.all (sides left_next contents_next reads_next writes_next) (same_behind t.all h t.comes t.goes.1) t.goes.0

-- ---- before the first turn

-- memory ran out
pub runs_nothing : {S : Type 0} (c : Supplying S) (start : Supplier) (supply : S) (old : Sides) (short : NoMemory) → Runs c start supply old (Err short) supply old
runs_nothing c start supply old short = Runs.short_at_once short

-- the bind was not written whole
pub runs_unbound : {S : Type 0} (c : Supplying S) (start : Supplier) (supply : S) (old : Sides) (bind : List ℕ) (left contents : Option (List ℕ)) (reads writes : ℕ)
    → bind ≡ bind_bytes → AppendsFront old.contents contents bind → left ≡ old.left → Rose old.write_faults writes
    → Runs c start supply old (Ok run.Lost) supply (sides left contents reads writes)
runs_unbound c start supply old bind left contents reads writes is wrote kept rose =
    Runs.unbound (sides left contents reads writes) (subst (AppendsFront old.contents contents) is wrote) kept rose
