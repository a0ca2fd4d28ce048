-- What a node has taken stays an order of arrival through its steps, where verdicts are sound.
use Rattle.std.proofs.Common.{◌≡◌, ℕ, ◌<◌, ◌≤◌, Bool, false, inl, inr, [], ◌∷◌, ◌++◌, refl, sym, ap, subst, ◌∙◌, arith, Contains, Option, Some, None, ◌==◌}
use Rattle.std.specs.Prelude.{Result, Ok, Err}
use Rattle.std.proofs.lemmas.Bool.{cases_Bool}
use Rattle.repl_data.specs.declared.csn.Csn.{Csn}
use Rattle.repl_data.specs.declared.csn.Uid.{Uid}
use Rattle.repl_data.specs.declared.change.Change.{Change}
use Rattle.repl_data.specs.declared.change.Update.{Update}
use Rattle.repl_data.specs.declared.change.Body.{Body}
use Rattle.repl_data.specs.Order.{csn_eq, number_of}
use Rattle.repl_data.specs.Closed.{needed, IsArrival}
use Rattle.ldap_rules.specs.Verdict.{Verdict, Writes}
use Rattle.vector_core.specs.declared.answers.Applied.{Applied}
use Rattle.vector_core.specs.declared.answers.Applied.TheVariants.{Taken, Duplicate}
use Rattle.vector_core.specs.declared.answers.ApplyFault.{ApplyFault}
use Rattle.vector_core.specs.declared.answers.AcquireFault.{AcquireFault}
use Rattle.vector_core.proofs.Lists.{if_true, if_false}
use Rattle.node_core.specs.Node.{Node, front}
use Rattle.ldap_rules.specs.Laws.{target_at, change_at}
use Rattle.node_core.specs.Steps.{NoTicket, csn_for, after_begin, CommitAnswer, commit_answer, with_csn, after_commit, ended, after_acquire, released, is_held_by, apply_answer, after_apply}
use Rattle.node_core.specs.Sound.{IsPlain, IsSoundNode, IsOpen, IsSoundWrite}
use Rattle.node_core.proofs.Orders.{lt_number, number_lt, plain_same, plain_apart}
use Rattle.node_core.proofs.Fronts.{front_other-above}
use Rattle.node_core.proofs.Draws.{draw-above, csn_for-cases}
use Rattle.node_core.proofs.NodeSteps.{drawn-above}
use Rattle.node_core.proofs.Alone.{chosen}
use Rattle.node_core.proofs.Applies.{Fits, taken-means}
use Rattle.node_core.proofs.Spares.{commit_by}
use Rattle.node_core.proofs.Arrivals.{arrival_push, known_below, known_plain}

-- ---- commit

abbrev ClosedAfter : Node → Csn → Verdict → CommitAnswer → Type 0
ClosedAfter n csn v a = ((target : Option Uid) (body : Body) → v ≡ Writes target body → IsSoundWrite n.taken target body) → IsArrival (after_commit n csn v a).taken

with_csn-taken : (n : Node) (old new : Csn) → (with_csn n old new).taken ≡ n.taken
with_csn-taken n old new = elim (cases_Bool (csn_eq old new)) [ inl t ↦ ap (λ (m : Node). m.taken) (if_true _ _ t) | inr f ↦ ap (λ (m : Node). m.taken) (if_false _ _ f) ]

-- what the change needs is below the CSN that is taken
pub need_below : (n : Node) (csn : Csn) (now : ℕ) (target : Option Uid) (body : Body) (new : Csn) → IsSoundNode n → IsArrival n.taken → IsSoundWrite n.taken target body → IsPlain csn
    → csn_for n csn (needed (target_at csn target) body) now ≡ Some new → 0 < new.rid → number_of (needed (target_at new target) body).csn < number_of new
need_below n csn now target body new s closed sw plain e low =
    elim (csn_for-cases n csn (needed (target_at csn target) body) now new e) [
      | inl kept ↦
          (let l : number_of (needed (target_at csn target) body).csn < number_of csn = lt_number (needed (target_at csn target) body).csn csn (known_plain n.taken (needed (target_at csn target) body) closed.sound s.taken_plain (sw.known csn)) plain kept.0 in
          let c : number_of csn ≡ number_of new = ap number_of kept.1 in
          let d : number_of (needed (target_at csn target) body).csn ≡ number_of (needed (target_at new target) body).csn = ap (λ (z : Uid). number_of z.csn) (sw.one_need csn new) in
          omega arith)
      | inr d ↦
          (let up = draw-above n.last now d.0 s.last_fits d.1 in
          known_below n.taken (needed (target_at new target) body) new closed.sound (sw.known new) low
          (λ c h. subst (λ z. number_of c.csn < number_of z) d.2 (drawn-above n d.0 s up.0 c h)))
    ]

-- a write that is sound comes after what it needs
pub write_arrives : (n : Node) (csn : Csn) (now : ℕ) (target : Option Uid) (body : Body) (new : Csn) → IsSoundNode n → IsOpen n csn → IsArrival n.taken → IsSoundWrite n.taken target body
    → csn_for n csn (needed (target_at csn target) body) now ≡ Some new → IsArrival (n.taken ++ change_at new target body ∷ [])
write_arrives n csn now target body new s o closed sw e =
    let ch = chosen n csn (needed (target_at csn target) body) now new s o e in
    let plain : IsPlain new = ch.0.sound.pending_plain new ch.1.is_pending in
    let new_one : (d : Change) → Contains n.taken d → csn_eq d.csn new ≡ false =
    λ d h. plain_apart d.csn new (s.taken_plain d h) plain (ch.1.not_taken d (subst (λ z. Contains z d) (sym (with_csn-taken n csn new)) h)) in
    let own : new.rid ≡ n.rid = ch.0.sound.pending_own new ch.1.is_pending ∙ ch.0.on.same_rid in
    let low : 0 < new.rid = (let r : 0 < n.rid = s.rid_above in omega arith) in
    let high : new.rid < 65535 = (let r : n.rid < 65535 = s.rid_fits in omega arith) in
    arrival_push n.taken (change_at new target body) closed new_one
    (sw.passes new plain low high
    (number_lt (needed (target_at new target) body).csn new (known_plain n.taken (needed (target_at new target) body) closed.sound s.taken_plain (sw.known new)) plain
    (need_below n csn now target body new s closed sw (s.pending_plain csn o.is_pending) e low)))
    (sw.known new)

pub commit_closed : (n : Node) (life : ℕ) (csn : Csn) (verdict : Verdict) (now : ℕ) (fails : Bool) → IsSoundNode n → (life ≡ n.life → IsOpen n csn) → IsArrival n.taken → ((target : Option Uid) (body : Body) → verdict ≡ Writes target body → IsSoundWrite n.taken target body) → IsArrival (after_commit n csn verdict (commit_answer n life csn verdict now fails)).taken
commit_closed n life csn verdict now fails s open' closed writes =
    commit_by n life csn verdict now fails (ClosedAfter n csn)
    (λ v w. closed) (λ v result w. closed) (λ v w. closed)
    (λ l target body new e. (
      (λ w. subst (λ z. IsArrival z) (sym (with_csn-taken n csn new)) closed),
      (λ w.
          subst (λ z. IsArrival (z ++ change_at new target body ∷ [])) (sym (with_csn-taken n csn new))
          (write_arrives n csn now target body new s (open' l) closed (w target body refl) e)),
    ))
    writes

-- ---- apply

pub apply_closed : (n : Node) (from : ℕ) (u : Update) (now : ℕ) (fails : Bool) → IsSoundNode n → Fits u → IsArrival n.taken → IsArrival (after_apply n u.change (apply_answer n from u now fails)).taken
apply_closed n from u now fails s fit closed = by_answer (apply_answer n from u now fails) refl
  where
    by_answer : (a : Result Applied ApplyFault) → apply_answer n from u now fails ≡ a → IsArrival (after_apply n u.change a).taken
    by_answer (Ok Taken) e =
        (let t = taken-means n from u now fails s fit e in
        arrival_push n.taken u.change closed
        (λ d h. plain_apart d.csn u.change.csn (s.taken_plain d h) t.plain
        (λ same.
        (let one : d.csn ≡ u.change.csn = plain_same d.csn u.change.csn (s.taken_plain d h) t.plain same in
        let l : number_of d.csn ≤ number_of (front n u.change.csn.rid) = front_other-above n u.change.csn.rid s t.not_own d h (ap (λ (z : Csn). z.rid) one) in
        let m : number_of (front n u.change.csn.rid) < number_of u.change.csn = t.above in
        absurd (omega arith))))
        t.checked t.known)
    by_answer (Ok Duplicate) e = closed
    by_answer (Err fault) e = closed

-- ---- the other steps take nothing

pub begin-taken : (n : Node) (a : Result Csn NoTicket) → (after_begin n a).taken ≡ n.taken
begin-taken n (Ok csn) = refl
begin-taken n (Err fault) = refl

pub ended-taken : (n : Node) (life : ℕ) (csn : Csn) → (ended n life csn).taken ≡ n.taken
ended-taken n life csn = elim (cases_Bool (life == n.life)) [ inl t ↦ ap (λ (m : Node). m.taken) (if_true _ _ t) | inr f ↦ ap (λ (m : Node). m.taken) (if_false _ _ f) ]

pub acquire-taken : (n : Node) (from : ℕ) (a : Option AcquireFault) → (after_acquire n from a).taken ≡ n.taken
acquire-taken n from None = refl
acquire-taken n from (Some fault) = refl

pub released-taken : (n : Node) (from : ℕ) → (released n from).taken ≡ n.taken
released-taken n from = elim (cases_Bool (is_held_by n.holder from)) [ inl t ↦ ap (λ (m : Node). m.taken) (if_true _ _ t) | inr f ↦ ap (λ (m : Node). m.taken) (if_false _ _ f) ]
