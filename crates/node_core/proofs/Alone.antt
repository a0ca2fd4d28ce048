-- Every step of a node but the taking of an update goes on alone: sound, going on, with nothing new from others.
use Rattle.std.proofs.Common.{◌≡◌, ℕ, ◌<◌, ◌≢◌, Bool, true, false, inl, inr, refl, sym, subst, ◌∙◌, arith, Contains, if◌then◌else◌, Option, Some, None, ◌==◌, eqb-true}
use Rattle.std.proofs.lemmas.Bool.{cases_Bool}
use Rattle.std.proofs.lemmas.List.Elements.{Contains-push}
use Rattle.repl_data.specs.declared.csn.Csn.{Csn}
use Rattle.repl_data.specs.declared.csn.Uid.{Uid}
use Rattle.repl_data.specs.declared.change.Change.{Change}
use Rattle.repl_data.specs.declared.change.Body.{Body}
use Rattle.repl_data.specs.Order.{number_of}
use Rattle.repl_data.specs.Closed.{needed}
use Rattle.ldap_rules.specs.Verdict.{Verdict, Refuses, Writes, Answers}
use Rattle.vector_core.specs.declared.answers.AcquireFault.{AcquireFault}
use Rattle.vector_core.proofs.Lists.{if_true, if_false}
use Rattle.pending_core.specs.Pending.{without}
use Rattle.node_core.specs.Node.{Node}
use Rattle.ldap_rules.specs.Laws.{target_at, change_at}
use Rattle.node_core.specs.Steps.{csn_at, csn_for, begin_answer, after_begin, KeeperFailed, Committed, kept_at, judged, commit_answer, with_csn, takes, after_commit, ended, after_acquire, released, is_held_by}
use Rattle.node_core.specs.Sound.{IsSoundNode, GoesOn, IsOpen}
use Rattle.node_core.proofs.Moves.{was_pending, goes_on, goes_on-then}
use Rattle.node_core.proofs.Draws.{draw-above, csn_for-cases}
use Rattle.node_core.proofs.NodeSteps.{MovesAlone, stays, begin-moves, ended-moves, draws, with_drawn, drawn-above, takes-moves, with_csn-kept, with_csn-drawn, without-Contains}

pub record GoesAlone (old new : Node) : Type 0 where
  pub sound : IsSoundNode new
  pub on : GoesOn old new
  pub no_other : (c : Change) → Contains new.taken c → c.csn.rid ≢ old.rid → Contains old.taken c

pub alone : (old new : Node) → IsSoundNode old → MovesAlone old new → GoesAlone old new
alone old new s m = record { sound = m.sound; on = goes_on old new s m.sound m.moves; no_other = m.no_other }

pub alone-then : (a b c : Node) → GoesAlone a b → GoesAlone b c → GoesAlone a c
alone-then a b c f g = record {
  sound = g.sound;
  on = goes_on-then a b c f.on g.on;
  no_other = λ d h other. f.no_other d (g.no_other d h (λ e. other (e ∙ f.on.same_rid))) other;
}

pub begin-alone : (n : Node) (now : ℕ) → IsSoundNode n → GoesAlone n (after_begin n (begin_answer n now))
begin-alone n now s = alone n (after_begin n (begin_answer n now)) s (begin-moves n now s)

pub ended-alone : (n : Node) (life : ℕ) (csn : Csn) → IsSoundNode n → GoesAlone n (ended n life csn)
ended-alone n life csn s = alone n (ended n life csn) s (ended-moves n life csn s)

-- the CSN that a commit takes is open on the node that has it in place of the ticket's
pub chosen : (n : Node) (csn : Csn) (id : Uid) (now : ℕ) (new : Csn) → IsSoundNode n → IsOpen n csn → csn_for n csn id now ≡ Some new → GoesAlone n (with_csn n csn new) × IsOpen (with_csn n csn new) new
chosen n csn id now new s o e =
    elim (csn_for-cases n csn id now new e) [
      | inl kept ↦
          (let same = kept.1 in
          subst (λ z. GoesAlone n (with_csn n csn z) × IsOpen (with_csn n csn z) z) same
          (subst (λ m. GoesAlone n m × IsOpen m csn) (sym (with_csn-kept n csn)) (alone n n s (stays n s), o)))
      | inr d ↦
          (let up = draw-above n.last now d.0 s.last_fits d.1 in
          let m = with_drawn n (without n.pending csn) d.0 in
          subst (λ z. GoesAlone n (with_csn n csn z) × IsOpen (with_csn n csn z) z) d.2
          (subst (λ k. GoesAlone n k × IsOpen k (csn_at n.rid d.0)) (sym (with_csn-drawn n csn d.0 s o.is_pending up.0 up.1)) (
            alone n (with_drawn n (without n.pending csn) d.0) s (draws n (without n.pending csn) d.0 s (without-Contains csn n.pending) up.0 up.1),
            record {
              is_pending = Contains-push (without n.pending csn) (csn_at n.rid d.0);
              not_taken = λ c h same. (let b : number_of c.csn < number_of (csn_at n.rid d.0) = drawn-above n d.0 s up.0 c h in omega arith);
            },
          )))
    ]

pub commit-alone : (n : Node) (life : ℕ) (csn : Csn) (verdict : Verdict) (now : ℕ) (fails : Bool) → IsSoundNode n → (life ≡ n.life → IsOpen n csn) → GoesAlone n (after_commit n csn verdict (commit_answer n life csn verdict now fails))
commit-alone n life csn verdict now fails s open' =
    elim (cases_Bool (life == n.life)) [
      | inl t ↦ subst (λ a. GoesAlone n (after_commit n csn verdict a)) (sym (if_true _ _ t)) (by_verdict (open' (eqb-true life n.life t)) verdict)
      | inr f ↦ subst (λ a. GoesAlone n (after_commit n csn verdict a)) (sym (if_false _ _ f)) (alone n n s (stays n s))
    ]
  where
    by_fails : IsOpen n csn → (target : Option Uid) (body : Body) (new : Csn) → csn_for n csn (needed (target_at csn target) body) now ≡ Some new → (b : Bool) → GoesAlone n (after_commit n csn (Writes target body) (if b then KeeperFailed new else Committed new))
    by_fails o target body new e true = (chosen n csn (needed (target_at csn target) body) now new s o e).0
    by_fails o target body new e false =
        (let ch = chosen n csn (needed (target_at csn target) body) now new s o e in
        let mid = with_csn n csn new in
        let c = change_at new target body in
        alone-then n (with_csn n csn new) (takes (with_csn n csn new) (change_at new target body)) ch.0
        (alone (with_csn n csn new) (takes (with_csn n csn new) (change_at new target body)) ch.0.sound (takes-moves (with_csn n csn new) (change_at new target body) ch.0.sound ch.1)))

    by_csn : IsOpen n csn → (target : Option Uid) (body : Body) (new : Option Csn) → csn_for n csn (needed (target_at csn target) body) now ≡ new → GoesAlone n (after_commit n csn (Writes target body) (kept_at n new fails))
    by_csn o target body None e = alone n n s (stays n s)
    by_csn o target body (Some new) e = by_fails o target body new e fails

    by_verdict : IsOpen n csn → (v : Verdict) → GoesAlone n (after_commit n csn v (judged n csn v now fails))
    by_verdict o (Refuses result) = alone n n s (stays n s)
    by_verdict o (Answers result) = alone n n s (stays n s)
    by_verdict o (Writes target body) = by_csn o target body (csn_for n csn (needed (target_at csn target) body) now) refl

pub holds-alone : (n : Node) (holder : Option ℕ) → IsSoundNode n → GoesAlone n (record n { holder = holder })
holds-alone n holder s = alone n (record n { holder = holder }) s (record {
  sound = record {
    rid_above = s.rid_above;
    rid_fits = s.rid_fits;
    last_fits = s.last_fits;
    taken_plain = s.taken_plain;
    taken_named = s.taken_named;
    taken_reached = s.taken_reached;
    pending_plain = s.pending_plain;
    pending_own = s.pending_own;
    pending_reached = s.pending_reached;
    once = s.once;
  };
  moves = record { same_rid = refl; same_suffix = refl; kept = λ c h. h; pending_from = λ p h. was_pending h; committed_from = λ c h own. inl h };
  no_other = λ c h other. h;
})

pub acquire-alone : (n : Node) (from : ℕ) (a : Option AcquireFault) → IsSoundNode n → GoesAlone n (after_acquire n from a)
acquire-alone n from None s = holds-alone n (Some from) s
acquire-alone n from (Some fault) s = alone n n s (stays n s)

pub released-alone : (n : Node) (from : ℕ) → IsSoundNode n → GoesAlone n (released n from)
released-alone n from s =
    elim (cases_Bool (is_held_by n.holder from)) [
      | inl t ↦ subst (λ m. GoesAlone n m) (sym (if_true _ _ t)) (holds-alone n None s)
      | inr f ↦ subst (λ m. GoesAlone n m) (sym (if_false _ _ f)) (alone n n s (stays n s))
    ]
