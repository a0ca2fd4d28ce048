-- Each step of a node keeps it sound, and is a move.
use Rattle.std.proofs.Common.{◌≡◌, ℕ, ◌<◌, ◌≤◌, ◌≢◌, not, inl, inr, List, [], ◌∷◌, ◌++◌, refl, sym, ap, subst, ◌∙◌, arith, Contains, ◌==◌}
use Rattle.std.specs.Prelude.{Result, Ok, Err}
use Rattle.std.proofs.lemmas.Bool.{cases_Bool}
use Rattle.std.proofs.lemmas.List.Elements.{Contains-append_left, Contains-push_cases}
use Rattle.repl_data.specs.declared.csn.Csn.{Csn}
use Rattle.repl_data.specs.declared.change.Change.{Change}
use Rattle.repl_data.specs.Order.{csn_eq, number_of}
use Rattle.repl_data.proofs.CsnTests.{csn_eq-same, csn_eq-not_lt}
use Rattle.vector_core.proofs.Lists.{if_true, if_false, Contains-filter}
use Rattle.pending_core.specs.Draw.{generator_at}
use Rattle.pending_core.specs.Pending.{without}
use Rattle.node_core.specs.Node.{Node}
use Rattle.node_core.specs.Steps.{NoTicket, moment_of, csn_at, begin_answer, after_begin, with_csn, takes, ended}
use Rattle.node_core.specs.Sound.{IsPlain, IsSoundNode, number_at, IsReached, IsOpen}
use Rattle.node_core.proofs.Orders.{number_lt}
use Rattle.node_core.proofs.Moves.{IsFresh, was_pending, above_all, Moves}
use Rattle.node_core.proofs.Draws.{draw-above, reached_below, begun-drawn}

-- a move that takes nothing that originated elsewhere, and leaves the node sound
pub record MovesAlone (old new : Node) : Type 0 where
  pub sound : IsSoundNode new
  pub moves : Moves old new
  pub no_other : (c : Change) → Contains new.taken c → c.csn.rid ≢ old.rid → Contains old.taken c

pub stays : (n : Node) → IsSoundNode n → MovesAlone n n
stays n s = record {
  sound = s;
  moves = record { same_rid = refl; same_suffix = refl; kept = λ c h. h; pending_from = λ p h. was_pending h; committed_from = λ c h o. inl h };
  no_other = λ c h o. h;
}

-- ---- the pending csns shrink

abbrev pub with_pending : Node → List Csn → Node
with_pending n pending = record n { pending = pending }

pub shrinks : (n : Node) (pending : List Csn) → IsSoundNode n → ((p : Csn) → Contains pending p → Contains n.pending p) → MovesAlone n (with_pending n pending)
shrinks n pending s sub = record {
  sound = record {
    rid_above = s.rid_above;
    rid_fits = s.rid_fits;
    last_fits = s.last_fits;
    taken_plain = s.taken_plain;
    taken_named = s.taken_named;
    taken_reached = s.taken_reached;
    pending_plain = λ p h. s.pending_plain p (sub p h);
    pending_own = λ p h. s.pending_own p (sub p h);
    pending_reached = λ p h. s.pending_reached p (sub p h);
    once = s.once;
  };
  moves = record { same_rid = refl; same_suffix = refl; kept = λ c h. h; pending_from = λ p h. was_pending (sub p h); committed_from = λ c h o. inl h };
  no_other = λ c h o. h;
}

pub without-Contains : (c : Csn) (pending : List Csn) (p : Csn) → Contains (without pending c) p → Contains pending p
without-Contains c pending p h = (Contains-filter (λ q. not (csn_eq q c)) pending p h).0

pub ended-moves : (n : Node) (life : ℕ) (csn : Csn) → IsSoundNode n → MovesAlone n (ended n life csn)
ended-moves n life csn s =
    elim (cases_Bool (life == n.life)) [
      | inl t ↦ subst (λ m. MovesAlone n m) (sym (if_true _ _ t)) (shrinks n (without n.pending csn) s (without-Contains csn n.pending))
      | inr f ↦ subst (λ m. MovesAlone n m) (sym (if_false _ _ f)) (stays n s)
    ]

-- ---- a draw

abbrev pub with_drawn : Node → List Csn → ℕ × ℕ → Node
with_drawn n pending m = record n { last = generator_at m; pending = pending ++ csn_at n.rid m ∷ [] }

pub drawn-above : (n : Node) (m : ℕ × ℕ) → IsSoundNode n → number_at n.last < number_at (generator_at m) → (c : Change) → Contains n.taken c → number_of c.csn < number_of (csn_at n.rid m)
drawn-above n m s up c h = reached_below n.last m n.rid c.csn (s.taken_plain c h) (s.taken_reached c h) up

pub draws : (n : Node) (pending : List Csn) (m : ℕ × ℕ) → IsSoundNode n → ((p : Csn) → Contains pending p → Contains n.pending p) → number_at n.last < number_at (generator_at m) → m.1 < 65536 → MovesAlone n (with_drawn n pending m)
draws n pending m s sub up fits = record {
  sound = record {
    rid_above = s.rid_above;
    rid_fits = s.rid_fits;
    last_fits = fits;
    taken_plain = s.taken_plain;
    taken_named = s.taken_named;
    taken_reached = λ c h. (let r : number_at (moment_of c.csn) ≤ number_at n.last = s.taken_reached c h in omega arith);
    pending_plain = λ p h.
        elim (Contains-push_cases pending (csn_at n.rid m) p h) [
          | inl q ↦ s.pending_plain p (sub p q)
          | inr e ↦ subst (λ z. IsPlain z) e (record { seq_fits = fits; rid_fits = (let r : n.rid < 65535 = s.rid_fits in omega arith); no_part = refl })
        ];
    pending_own = λ p h.
        elim (Contains-push_cases pending (csn_at n.rid m) p h) [
          | inl q ↦ s.pending_own p (sub p q)
          | inr e ↦ sym (ap (λ (z : Csn). z.rid) e)
        ];
    pending_reached = λ p h.
        elim (Contains-push_cases pending (csn_at n.rid m) p h) [
          | inl q ↦ (let r : number_at (moment_of p) ≤ number_at n.last = s.pending_reached p (sub p q) in omega arith)
          | inr e ↦ subst (λ z. IsReached (generator_at m) z) e (omega arith)
        ];
    once = s.once;
  };
  moves = record {
    same_rid = refl;
    same_suffix = refl;
    kept = λ c h. h;
    pending_from = λ p h.
        elim (Contains-push_cases pending (csn_at n.rid m) p h) [
          | inl q ↦ was_pending (sub p q)
          | inr e ↦ subst (λ z. IsFresh n z) e (above_all s.rid_above (drawn-above n m s up))
        ];
    committed_from = λ c h o. inl h;
  };
  no_other = λ c h o. h;
}

pub begin-moves : (n : Node) (now : ℕ) → IsSoundNode n → MovesAlone n (after_begin n (begin_answer n now))
begin-moves n now s = by_answer (begin_answer n now) refl
  where
    by_answer : (a : Result Csn NoTicket) → begin_answer n now ≡ a → MovesAlone n (after_begin n a)
    by_answer (Ok csn) e =
        (let d = begun-drawn n now csn e in
        let up = draw-above n.last now d.0 s.last_fits d.1 in
        subst (λ z. MovesAlone n (after_begin n (Ok z))) d.2 (draws n n.pending d.0 s (λ p h. h) up.0 up.1))
    by_answer (Err fault) e = stays n s

-- ---- a commit

pub takes-moves : (n : Node) (c : Change) → IsSoundNode n → IsOpen n c.csn → MovesAlone n (takes n c)
takes-moves n c s o = record {
  sound = record {
    rid_above = s.rid_above;
    rid_fits = s.rid_fits;
    last_fits = s.last_fits;
    taken_plain = λ d h.
        elim (Contains-push_cases n.taken c d h) [ inl q ↦ s.taken_plain d q | inr e ↦ subst (λ (z : Change). IsPlain z.csn) e (s.pending_plain c.csn o.is_pending) ];
    taken_named = λ d h.
        elim (Contains-push_cases n.taken c d h) [
          | inl q ↦ s.taken_named d q
          | inr e ↦ subst (λ (z : Change). 0 < z.csn.rid) e (subst (λ r. 0 < r) (sym (s.pending_own c.csn o.is_pending)) s.rid_above)
        ];
    taken_reached = λ d h.
        elim (Contains-push_cases n.taken c d h) [ inl q ↦ s.taken_reached d q | inr e ↦ subst (λ (z : Change). IsReached n.last z.csn) e (s.pending_reached c.csn o.is_pending) ];
    pending_plain = s.pending_plain;
    pending_own = s.pending_own;
    pending_reached = s.pending_reached;
    once = λ d f h k e.
        elim (Contains-push_cases n.taken c d h) [
          | inl q ↦
              elim (Contains-push_cases n.taken c f k) [
                | inl r ↦ s.once d f q r e
                | inr g ↦ absurd (o.not_taken d q (e ∙ sym (ap (λ (z : Change). number_of z.csn) g)))
              ]
          | inr g ↦
              elim (Contains-push_cases n.taken c f k) [
                | inl r ↦ absurd (o.not_taken f r (sym e ∙ sym (ap (λ (z : Change). number_of z.csn) g)))
                | inr j ↦ sym g ∙ j
              ]
        ];
  };
  moves = record {
    same_rid = refl;
    same_suffix = refl;
    kept = λ d h. Contains-append_left n.taken (c ∷ []) d h;
    pending_from = λ p h. was_pending h;
    committed_from = λ d h own.
        elim (Contains-push_cases n.taken c d h) [
          | inl q ↦ inl q
          | inr e ↦ inr (was_pending (subst (λ (z : Change). Contains n.pending z.csn) e o.is_pending))
        ];
  };
  no_other = λ d h other.
      elim (Contains-push_cases n.taken c d h) [
        | inl q ↦ q
        | inr e ↦ absurd (other (subst (λ (z : Change). z.csn.rid ≡ n.rid) e (s.pending_own c.csn o.is_pending)))
      ];
}

pub with_csn-kept : (n : Node) (c : Csn) → with_csn n c c ≡ n
with_csn-kept n c = if_true _ _ (csn_eq-same c)

pub with_csn-drawn : (n : Node) (old : Csn) (m : ℕ × ℕ) → IsSoundNode n → Contains n.pending old → number_at n.last < number_at (generator_at m) → m.1 < 65536 → with_csn n old (csn_at n.rid m) ≡ with_drawn n (without n.pending old) m
with_csn-drawn n old m s h up fits =
    let b : number_of old < number_of (csn_at n.rid m) = reached_below n.last m n.rid old (s.pending_plain old h) (s.pending_reached old h) up in
    let plain : IsPlain (csn_at n.rid m) = record { seq_fits = fits; rid_fits = (let r : n.rid < 65535 = s.rid_fits in omega arith); no_part = refl } in
    if_false _ _ (csn_eq-not_lt old (csn_at n.rid m) (number_lt old (csn_at n.rid m) (s.pending_plain old h) plain b))
