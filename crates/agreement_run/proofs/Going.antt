-- A session over a stream, step by step.
use Rattle.std.proofs.Common.{◌≡◌, ℕ, List, [], ◌∷◌, ◌++◌, Option, sym, subst}
use Rattle.std.specs.Io.KnownBytes.{Appends}
use Rattle.replica_session.specs.declared.supplier.SupplyStep.TheVariants as step
use Rattle.replica_session.specs.declared.supplier.Supplier.{Supplier}
use Rattle.replica_session.specs.Calls.{Supplying}
use Rattle.replica_session.specs.Messages.{bind_bytes}
use Rattle.replica_session.specs.Supplier.{begun}
use Rattle.replica_session.specs.Laws.{Talks}
use Rattle.agreement_run.specs.Sides.{Sides}
use Rattle.agreement_run.specs.Running.{TakesTurns, Goes}
use Rattle.agreement_run.specs.Turn.{Hears}
use Rattle.agreement_run.specs.Waiting.{Comes}

-- the bind was written
pub begins : {S : Type 0} (c : Supplying S) (start now : Supplier) (supply : S) (old : Sides) (bind unheard : List ℕ) (left_now contents_now : Option (List ℕ))
    → now ≡ begun start → bind ≡ bind_bytes → unheard ≡ [] → left_now ≡ old.left → Appends old.contents contents_now bind
    → Goes c start supply old now supply unheard left_now contents_now
begins c start now supply old bind unheard left_now contents_now same is none kept wrote =
    subst (λ (s : Supplier). Goes c start supply old s supply unheard left_now contents_now) (sym same)
    (subst (λ (l : List ℕ). Goes c start supply old (begun start) supply l left_now contents_now) (sym none)
    (subst (λ (l : Option (List ℕ)). Goes c start supply old (begun start) supply [] l contents_now) (sym kept)
    (record {
      replies = [];
      sent = [];
      talks = Talks.bound;
      turns = TakesTurns.begins bind_bytes contents_now (subst (Appends old.contents contents_now) is wrote);
    })))

-- these bytes came
pub waits : {S : Type 0} (c : Supplying S) (start now : Supplier) (supply asked : S) (old : Sides) (unheard all : List ℕ) (left left_now contents : Option (List ℕ))
    → Goes c start supply old now asked unheard left contents → Comes unheard left all left_now
    → Goes c start supply old now asked all left_now contents
waits c start now supply asked old unheard all left left_now contents h came = record {
  replies = h.replies;
  sent = h.sent;
  talks = h.talks;
  turns = subst (λ (l : List ℕ). TakesTurns old.left old.contents h.replies (bind_bytes ∷ h.sent) l left_now contents) (sym came.joined)
      (TakesTurns.reads h.replies (bind_bytes ∷ h.sent) unheard came.piece left left_now contents h.turns came.taken);
}

-- the reply in front of them was heard, and the next message was written
pub goes_on : {S : Type 0} (c : Supplying S) (start a b : Supplier) (supply x y : S) (old : Sides) (all rest message : List ℕ) (left contents contents_next : Option (List ℕ))
    → Goes c start supply old a x all left contents → Hears c a x all (step.Send message) b y rest → Appends contents contents_next message
    → Goes c start supply old b y rest left contents_next
goes_on c start a b supply x y old all rest message left contents contents_next h heard_so wrote = record {
  replies = h.replies ++ heard_so.reply ∷ [];
  sent = h.sent ++ message ∷ [];
  talks = Talks.more h.replies h.sent a b x y heard_so.reply message h.talks heard_so.hears;
  turns = TakesTurns.answers h.replies (bind_bytes ∷ h.sent) all rest message heard_so.reply left contents contents_next h.turns heard_so.front wrote;
}
