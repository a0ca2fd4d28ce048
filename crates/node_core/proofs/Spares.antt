-- Which open and pending CSNs a step of a node leaves as they were.
use Rattle.std.proofs.Common.{◌≡◌, ℕ, ◌<◌, ◌≢◌, Bool, true, false, not, inl, inr, List, [], ◌∷◌, refl, sym, ap, subst, ◌∙◌, arith, Contains, if◌then◌else◌, Option, Some, None, ◌==◌, eqb-true}
use Rattle.std.specs.Prelude.{Result, Ok, Err}
use Rattle.std.proofs.lemmas.Bool.{cases_Bool}
use Rattle.std.proofs.lemmas.List.Elements.{Contains-append_left, Contains-push_cases}
use Rattle.repl_data.specs.declared.csn.Csn.{Csn}
use Rattle.repl_data.specs.declared.csn.Uid.{Uid}
use Rattle.repl_data.specs.declared.change.Change.{Change}
use Rattle.repl_data.specs.declared.change.Update.{Update}
use Rattle.repl_data.specs.declared.change.Body.{Body}
use Rattle.repl_data.specs.Order.{csn_eq, number_of}
use Rattle.repl_data.specs.Closed.{needed}
use Rattle.ldap_types.specs.declared.reply.LdapResult.{LdapResult}
use Rattle.ldap_rules.specs.Verdict.{Verdict, Refuses, Writes, Answers}
use Rattle.vector_core.specs.declared.answers.Applied.{Applied}
use Rattle.vector_core.specs.declared.answers.Applied.TheVariants.{Taken, Duplicate}
use Rattle.vector_core.specs.declared.answers.ApplyFault.{ApplyFault}
use Rattle.vector_core.specs.declared.answers.AcquireFault.{AcquireFault}
use Rattle.vector_core.proofs.Lists.{if_true, if_false, filter-Contains}
use Rattle.pending_core.specs.Pending.{without}
use Rattle.node_core.specs.Node.{Node}
use Rattle.ldap_rules.specs.Laws.{target_at, change_at}
use Rattle.node_core.specs.Steps.{NoTicket, csn_at, csn_for, after_begin, CommitAnswer, Stale, Refused, CommitExhausted, KeeperFailed, Committed, kept_at, judged, commit_answer, with_csn, after_commit, ended, after_acquire, released, is_held_by, apply_answer, after_apply}
use Rattle.node_core.specs.Sound.{IsSoundNode, IsOpen}
use Rattle.node_core.proofs.Orders.{plain_same, eq_same}
use Rattle.node_core.proofs.Draws.{draw-above, reached_below, csn_for-cases}
use Rattle.node_core.proofs.NodeSteps.{with_csn-kept, with_csn-drawn}
use Rattle.node_core.proofs.Alone.{chosen}
use Rattle.node_core.proofs.Applies.{Fits, taken-means}

-- the life stays; what is not used stays open or pending
pub record Spares (old new : Node) (used : Csn → Type 0) : Type 0 where
  pub same_life : new.life ≡ old.life
  pub opens : (p : Csn) → (used p → ⊥) → IsOpen old p → IsOpen new p
  pub pends : (p : Csn) → (used p → ⊥) → Contains old.pending p → Contains new.pending p

abbrev pub Unused : Csn → Type 0
Unused p = ⊥

pub spares-refl : (n : Node) (used : Csn → Type 0) → Spares n n used
spares-refl n used = record { same_life = refl; opens = λ p u o. o; pends = λ p u h. h }

pub spares-then : (a b c : Node) (used : Csn → Type 0) → Spares a b used → Spares b c used → Spares a c used
spares-then a b c used f g = record {
  same_life = g.same_life ∙ f.same_life;
  opens = λ p u o. g.opens p u (f.opens p u o);
  pends = λ p u h. g.pends p u (f.pends p u h);
}

pub begin-spares : (n : Node) (a : Result Csn NoTicket) → Spares n (after_begin n a) Unused
begin-spares n (Ok csn) = record {
  same_life = refl;
  opens = λ p u o. record { is_pending = Contains-append_left n.pending (csn ∷ []) p o.is_pending; not_taken = o.not_taken };
  pends = λ p u h. Contains-append_left n.pending (csn ∷ []) p h;
}
begin-spares n (Err fault) = spares-refl n Unused

abbrev pub IsThat : Csn → Csn → Type 0
IsThat c p = number_of p ≡ number_of c

pub without-keeps : (c : Csn) (pending : List Csn) (p : Csn) → (IsThat c p → ⊥) → Contains pending p → Contains (without pending c) p
without-keeps c pending p d h = filter-Contains (λ q. not (csn_eq q c)) pending p h (ap not (other (csn_eq p c) refl))
  where
    other : (b : Bool) → csn_eq p c ≡ b → csn_eq p c ≡ false
    other true e = absurd (d (ap number_of (eq_same p c e)))
    other false e = e

-- where the life is the node's, the CSN is used
abbrev pub IsEnded : Node → ℕ → Csn → Csn → Type 0
IsEnded n life csn p = (life ≡ n.life) × (number_of p ≡ number_of csn)

pub ended-spares : (n : Node) (life : ℕ) (csn : Csn) → Spares n (ended n life csn) (IsEnded n life csn)
ended-spares n life csn =
    elim (cases_Bool (life == n.life)) [
      | inl t ↦
          subst (λ m. Spares n m (IsEnded n life csn)) (sym (if_true _ _ t))
          (let e = eqb-true life n.life t in
          record {
            same_life = refl;
            opens = λ p u o. record { is_pending = without-keeps csn n.pending p (λ q. u (e, q)) o.is_pending; not_taken = o.not_taken };
            pends = λ p u h. without-keeps csn n.pending p (λ q. u (e, q)) h;
          })
      | inr f ↦ subst (λ m. Spares n m (IsEnded n life csn)) (sym (if_false _ _ f)) (spares-refl n (IsEnded n life csn))
    ]

holder-spares : (n : Node) (holder : Option ℕ) → Spares n (record n { holder = holder }) Unused
holder-spares n holder = record {
  same_life = refl;
  opens = λ p u o. record { is_pending = o.is_pending; not_taken = o.not_taken };
  pends = λ p u h. h;
}

pub acquire-spares : (n : Node) (from : ℕ) (a : Option AcquireFault) → Spares n (after_acquire n from a) Unused
acquire-spares n from None = holder-spares n (Some from)
acquire-spares n from (Some fault) = spares-refl n Unused

pub released-spares : (n : Node) (from : ℕ) → Spares n (released n from) Unused
released-spares n from =
    elim (cases_Bool (is_held_by n.holder from)) [
      | inl t ↦ subst (λ m. Spares n m Unused) (sym (if_true _ _ t)) (holder-spares n None)
      | inr f ↦ subst (λ m. Spares n m Unused) (sym (if_false _ _ f)) (spares-refl n Unused)
    ]

pub apply-spares : (n : Node) (from : ℕ) (u : Update) (now : ℕ) (fails : Bool) → IsSoundNode n → Fits u → Spares n (after_apply n u.change (apply_answer n from u now fails)) Unused
apply-spares n from u now fails s fit = by_answer (apply_answer n from u now fails) refl
  where
    by_answer : (a : Result Applied ApplyFault) → apply_answer n from u now fails ≡ a → Spares n (after_apply n u.change a) Unused
    by_answer (Ok Taken) e =
        (let t = taken-means n from u now fails s fit e in
        record {
          same_life = refl;
          opens = λ p v o. record {
            is_pending = o.is_pending;
            not_taken = λ c h same.
                elim (Contains-push_cases n.taken u.change c h) [
                  | inl q ↦ o.not_taken c q same
                  | inr q ↦
                      (let here : number_of u.change.csn ≡ number_of p = ap (λ (z : Change). number_of z.csn) q ∙ same in
                      let one : u.change.csn ≡ p = plain_same u.change.csn p t.plain (s.pending_plain p o.is_pending) here in
                      t.not_own (ap (λ (z : Csn). z.rid) one ∙ s.pending_own p o.is_pending))
                ];
          };
          pends = λ p v h. h;
        })
    by_answer (Ok Duplicate) e = spares-refl n Unused
    by_answer (Err fault) e = spares-refl n Unused

-- A COMMIT

-- a fact of each answer that a commit can give
pub commit_by : (n : Node) (life : ℕ) (csn : Csn) (verdict : Verdict) (now : ℕ) (fails : Bool) (P : Verdict → CommitAnswer → Type 0) → ((v : Verdict) → P v (Stale n.life)) → ((v : Verdict) (result : LdapResult) → P v (Refused result)) → ((v : Verdict) → P v (CommitExhausted n.last)) → (life ≡ n.life → (target : Option Uid) (body : Body) (new : Csn) → csn_for n csn (needed (target_at csn target) body) now ≡ Some new → P (Writes target body) (KeeperFailed new) × P (Writes target body) (Committed new)) → P verdict (commit_answer n life csn verdict now fails)
commit_by n life csn verdict now fails P stale refused exhausted kept =
    elim (cases_Bool (life == n.life)) [
      | inl t ↦ subst (λ a. P verdict a) (sym (if_true _ _ t)) (by_verdict (eqb-true life n.life t) verdict)
      | inr f ↦ subst (λ a. P verdict a) (sym (if_false _ _ f)) (stale verdict)
    ]
  where
    by_fails : life ≡ n.life → (target : Option Uid) (body : Body) (new : Csn) → csn_for n csn (needed (target_at csn target) body) now ≡ Some new → (b : Bool) → P (Writes target body) (if b then KeeperFailed new else Committed new)
    by_fails l target body new e true = (kept l target body new e).0
    by_fails l target body new e false = (kept l target body new e).1

    by_csn : life ≡ n.life → (target : Option Uid) (body : Body) (new : Option Csn) → csn_for n csn (needed (target_at csn target) body) now ≡ new → P (Writes target body) (kept_at n new fails)
    by_csn l target body None e = exhausted (Writes target body)
    by_csn l target body (Some new) e = by_fails l target body new e fails

    by_verdict : life ≡ n.life → (v : Verdict) → P v (judged n csn v now fails)
    by_verdict l (Refuses result) = refused (Refuses result) result
    by_verdict l (Answers result) = refused (Answers result) result
    by_verdict l (Writes target body) = by_csn l target body (csn_for n csn (needed (target_at csn target) body) now) refl

-- what stays pending is not the CSN that a commit takes
pub chosen_apart : (n : Node) (csn : Csn) (id : Uid) (now : ℕ) (new : Csn) → IsSoundNode n → csn_for n csn id now ≡ Some new → (p : Csn) → Contains n.pending p → (IsThat csn p → ⊥) → number_of p ≢ number_of new
chosen_apart n csn id now new s e p h d same =
    elim (csn_for-cases n csn id now new e) [
      | inl q ↦ d (same ∙ sym (ap number_of q.1))
      | inr q ↦
          (let up = draw-above n.last now q.0 s.last_fits q.1 in
          let b : number_of p < number_of (csn_at n.rid q.0) = reached_below n.last q.0 n.rid p (s.pending_plain p h) (s.pending_reached p h) up.0 in
          let j : number_of (csn_at n.rid q.0) ≡ number_of new = ap number_of q.2 in
          omega arith)
    ]

with_csn-spares : (n : Node) (csn : Csn) (id : Uid) (now : ℕ) (new : Csn) → IsSoundNode n → IsOpen n csn → csn_for n csn id now ≡ Some new → Spares n (with_csn n csn new) (IsThat csn)
with_csn-spares n csn id now new s o e =
    elim (csn_for-cases n csn id now new e) [
      | inl kept ↦
          subst (λ z. Spares n (with_csn n csn z) (IsThat csn)) kept.1
          (subst (λ m. Spares n m (IsThat csn)) (sym (with_csn-kept n csn)) (spares-refl n (IsThat csn)))
      | inr d ↦
          (let up = draw-above n.last now d.0 s.last_fits d.1 in
          subst (λ z. Spares n (with_csn n csn z) (IsThat csn)) d.2
          (subst (λ m. Spares n m (IsThat csn)) (sym (with_csn-drawn n csn d.0 s o.is_pending up.0 up.1))
          (record {
            same_life = refl;
            opens = λ p u w. record {
              is_pending = Contains-append_left (without n.pending csn) (csn_at n.rid d.0 ∷ []) p (without-keeps csn n.pending p u w.is_pending);
              not_taken = w.not_taken;
            };
            pends = λ p u h. Contains-append_left (without n.pending csn) (csn_at n.rid d.0 ∷ []) p (without-keeps csn n.pending p u h);
          })))
    ]

-- what a commit does to other tickets, and to its own
abbrev pub CommitLeaves : Node → ℕ → Csn → Verdict → CommitAnswer → Type 0
CommitLeaves n life csn verdict (Stale node_life) = Spares n n (IsEnded n life csn)
CommitLeaves n life csn verdict (Refused result) = Spares n n (IsEnded n life csn)
CommitLeaves n life csn verdict (CommitExhausted last) = Spares n n (IsEnded n life csn)
CommitLeaves n life csn verdict (KeeperFailed new) =
    Spares n (with_csn n csn new) (IsEnded n life csn)
    × IsOpen (with_csn n csn new) new
    × ((p : Csn) → Contains n.pending p → (IsThat csn p → ⊥) → number_of p ≢ number_of new)
CommitLeaves n life csn verdict (Committed new) =
    Spares n (after_commit n csn verdict (Committed new)) (IsEnded n life csn)
    × Contains (after_commit n csn verdict (Committed new)).pending new
    × ((p : Csn) → Contains n.pending p → (IsThat csn p → ⊥) → number_of p ≢ number_of new)

weaken : (a b : Node) (n : Node) (life : ℕ) (csn : Csn) → life ≡ n.life → Spares a b (IsThat csn) → Spares a b (IsEnded n life csn)
weaken a b n life csn l s = record {
  same_life = s.same_life;
  opens = λ p u o. s.opens p (λ q. u (l, q)) o;
  pends = λ p u h. s.pends p (λ q. u (l, q)) h;
}

pub commit_leaves : (n : Node) (life : ℕ) (csn : Csn) (verdict : Verdict) (now : ℕ) (fails : Bool) → IsSoundNode n → (life ≡ n.life → IsOpen n csn) → CommitLeaves n life csn verdict (commit_answer n life csn verdict now fails)
commit_leaves n life csn verdict now fails s open' =
    commit_by n life csn verdict now fails (CommitLeaves n life csn)
    (λ v. spares-refl n (IsEnded n life csn)) (λ v result. spares-refl n (IsEnded n life csn)) (λ v. spares-refl n (IsEnded n life csn))
    (λ l target body new e.
    (let o = open' l in
    let mid = with_csn n csn new in
    let sp = with_csn-spares n csn (needed (target_at csn target) body) now new s o e in
    let ch = chosen n csn (needed (target_at csn target) body) now new s o e in
    let ap' = chosen_apart n csn (needed (target_at csn target) body) now new s e in (
      (weaken n (with_csn n csn new) n life csn l sp, ch.1, ap'),
      (
        record {
          same_life = sp.same_life;
          opens = λ p u w. (let k = sp.opens p (λ q. u (l, q)) w in
              record {
                is_pending = k.is_pending;
                not_taken = λ c h same.
                    elim (Contains-push_cases (with_csn n csn new).taken (change_at new target body) c h) [
                      | inl q ↦ k.not_taken c q same
                      | inr q ↦ ap' p w.is_pending (λ q'. u (l, q')) (sym same ∙ sym (ap (λ (z : Change). number_of z.csn) q))
                    ];
              });
          pends = λ p u h. sp.pends p (λ q. u (l, q)) h;
        },
        ch.1.is_pending,
        ap',
      ),
    )))
