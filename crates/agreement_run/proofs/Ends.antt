-- What turns come to, and what the ends of a session over a stream say.
use Rattle.std.proofs.Common.{◌≡◌, ℕ, ◌+◌, List, [], ◌∷◌, ◌++◌, ◌⊎◌, inl, inr, Result, Ok, refl, sym, ap, ◌∙◌, subst, arith, append-nil, append_assoc, length-append}
use Rattle.std.proofs.KnownBytes.{Appends-trans, Consumes-nil, Consumes-trans}
use Rattle.std.proofs.lemmas.List.Concat.{flat_map-append}
use Rattle.std.proofs.lemmas.List.Folds.{concat-append}
use Rattle.std.specs.List.{concat, flat_map}
use Rattle.std.specs.Io.KnownBytes.{Appends, Consumes, IsAtEnd}
use Rattle.repl_data.specs.declared.items.NoMemory.{NoMemory}
use Rattle.io_edge.specs.Causes.{Rose}
use Rattle.ldap_replies.specs.Form.{reply_bytes}
use Rattle.replica_session.specs.declared.supplier.SessionEnd.{SessionEnd}
use Rattle.replica_session.specs.declared.supplier.SessionEnd.TheVariants.{Strange}
use Rattle.replica_session.specs.declared.supplier.Supplier.{Supplier}
use Rattle.replica_session.specs.Calls.{Supplying}
use Rattle.replica_session.specs.Laws.{EverySessionEnds, EndsSo}
use Rattle.agreement_run.specs.declared.end.RunEnd.{RunEnd}
use Rattle.agreement_run.specs.declared.end.RunEnd.TheVariants as run
use Rattle.agreement_run.specs.Sides.{Sides}
use Rattle.agreement_run.specs.Running.{TakesTurns, Runs}
use Rattle.agreement_run.specs.Laws.{MessagesAreWritten, RepliesAreRead, OneIsUnanswered, IsEndedBy, EveryEndIsAnswered, EveryLossHasACause}

-- ---- turns

pub messages_are_written : MessagesAreWritten
messages_are_written left contents _ _ _ _ _ (TakesTurns.begins message now wrote) = subst (Appends contents now) (sym (append-nil message)) wrote
messages_are_written left contents _ _ _ _ _ (TakesTurns.reads replies messages unheard piece a b now before took) =
    messages_are_written left contents a now replies messages unheard before
messages_are_written left contents _ _ _ _ _ (TakesTurns.answers replies messages unheard rest message r now a b before front wrote) =
    let all : concat (messages ++ message ∷ []) ≡ concat messages ++ message = concat-append messages (message ∷ []) ∙ ap (λ (l : List ℕ). concat messages ++ l) (append-nil message) in
    subst (Appends contents b) (sym all) (Appends-trans contents a b (concat messages) message (messages_are_written left contents now a replies messages unheard before) wrote)

pub replies_are_read : RepliesAreRead
replies_are_read left contents _ _ _ _ _ (TakesTurns.begins message now wrote) = Consumes-nil left
replies_are_read left contents _ _ _ _ _ (TakesTurns.reads replies messages unheard piece a b now before took) =
    subst (Consumes left b) (append_assoc (flat_map reply_bytes replies) unheard piece)
    (Consumes-trans left a b (flat_map reply_bytes replies ++ unheard) piece (replies_are_read left contents a now replies messages unheard before) took)
replies_are_read left contents _ _ _ _ _ (TakesTurns.answers replies messages unheard rest message r now a b before front wrote) =
    let heard = flat_map reply_bytes replies in
    let all : flat_map reply_bytes (replies ++ r ∷ []) ++ rest ≡ heard ++ unheard =
    ap (λ (l : List ℕ). l ++ rest) (flat_map-append reply_bytes replies (r ∷ []) ∙ ap (λ (l : List ℕ). heard ++ l) (append-nil (reply_bytes r)))
    ∙ append_assoc heard (reply_bytes r) rest
    ∙ ap (λ (l : List ℕ). heard ++ l) (sym front.spelled) in
    subst (Consumes left now) (sym all) (replies_are_read left contents now a replies messages unheard before)

pub one_is_unanswered : OneIsUnanswered
one_is_unanswered left contents _ _ _ _ _ (TakesTurns.begins message now wrote) = refl
one_is_unanswered left contents _ _ _ _ _ (TakesTurns.reads replies messages unheard piece a b now before took) =
    one_is_unanswered left contents a now replies messages unheard before
one_is_unanswered left contents _ _ _ _ _ (TakesTurns.answers replies messages unheard rest message r now a b before front wrote) =
    let so_far = one_is_unanswered left contents now a replies messages unheard before in
    omega (arith, so_far, length-append messages (message ∷ []), length-append replies (r ∷ []))

-- ---- ends

ended : {S : Type 0} (c : Supplying S) → EverySessionEnds c → (start : Supplier) (supply after : S) (old new : Sides) (end : SessionEnd) (result : Result RunEnd NoMemory)
    → Runs c start supply old result after new → result ≡ Ok (run.Ended end) → (end ≡ Strange) ⊎ IsEndedBy c start supply old end new
ended c laws start supply _ old _ end _ (Runs.heard_so a b x y unheard rest other new goes heard) e =
    let same : other ≡ end = cc in
    inr (record {
      supplier = a;
      asked = x;
      unheard = unheard;
      rest = rest;
      reply = heard.reply;
      goes = goes;
      front = heard.front;
      ends = subst (λ (k : SessionEnd). EndsSo a.awaited a.sent heard.reply k) same (laws a b x y heard.reply other heard.hears);
    })
ended c laws start supply _ old _ end _ (Runs.no_reply a x unheard place why new goes fault) e = let same : Strange ≡ end = cc in inl (sym same)
ended c laws start supply _ old _ end _ (Runs.unanswered a x unheard new goes more cause) e = absurd cc
ended c laws start supply _ old _ end _ (Runs.unbound new wrote kept rose) e = absurd cc
ended c laws start supply _ old _ end _ (Runs.unwritten a b x y unheard rest message contents new goes heard wrote rose) e = absurd cc
ended c laws start supply _ old _ end _ (Runs.short_at_once short) e = absurd cc
ended c laws start supply _ old _ end _ (Runs.short_later short a x y unheard new goes asks) e = absurd cc

pub every_end_is_answered : {S : Type 0} (c : Supplying S) → EverySessionEnds c → EveryEndIsAnswered c
every_end_is_answered c laws start supply after old new end runs = ended c laws start supply after old new end (Ok (run.Ended end)) runs refl

lost : {S : Type 0} (c : Supplying S) (start : Supplier) (supply after : S) (old new : Sides) (result : Result RunEnd NoMemory)
    → Runs c start supply old result after new → result ≡ Ok run.Lost → Rose old.read_faults new.read_faults ⊎ Rose old.write_faults new.write_faults ⊎ IsAtEnd new.left
lost c start supply _ old _ _ (Runs.heard_so a b x y unheard rest other new goes heard) e = absurd cc
lost c start supply _ old _ _ (Runs.no_reply a x unheard place why new goes fault) e = absurd cc
lost c start supply _ old _ _ (Runs.unanswered a x unheard new goes more (inl rose)) e = inl rose
lost c start supply _ old _ _ (Runs.unanswered a x unheard new goes more (inr end)) e = inr (inr end)
lost c start supply _ old _ _ (Runs.unbound new wrote kept rose) e = inr (inl rose)
lost c start supply _ old _ _ (Runs.unwritten a b x y unheard rest message contents new goes heard wrote rose) e = inr (inl rose)
lost c start supply _ old _ _ (Runs.short_at_once short) e = absurd cc
lost c start supply _ old _ _ (Runs.short_later short a x y unheard new goes asks) e = absurd cc

pub every_loss_has_a_cause : {S : Type 0} (c : Supplying S) → EveryLossHasACause c
every_loss_has_a_cause c start supply after old new runs = lost c start supply after old new (Ok run.Lost) runs refl
