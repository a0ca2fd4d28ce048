-- A move of a node, in which each new pending and each newly committed CSN is fresh, goes on from the node before it.
use Rattle.std.proofs.Common.{◌≡◌, ◌<◌, ◌≤◌, ◌⊎◌, inl, inr, refl, sym, subst, ◌∙◌, arith, Contains}
use Rattle.repl_data.specs.declared.csn.Csn.{Csn}
use Rattle.repl_data.specs.declared.change.Change.{Change}
use Rattle.repl_data.specs.Order.{number_of}
use Rattle.node_core.specs.Node.{Node, front}
use Rattle.node_core.specs.Sound.{IsSoundNode, GoesOn}
use Rattle.node_core.proofs.Orders.{number_of-above_0}
use Rattle.node_core.proofs.Fronts.{front-zero, front_own-above, front_own-among}

-- it was pending, or is above all that was taken
pub data IsFresh (n : Node) (k : Csn) : Type 0 where
  was_pending : Contains n.pending k → IsFresh n k
  above_all : 0 < k.rid → ((c : Change) → Contains n.taken c → number_of c.csn < number_of k) → IsFresh n k

pub record Moves (old new : Node) : Type 0 where
  pub same_rid : new.rid ≡ old.rid
  pub same_suffix : new.suffix ≡ old.suffix
  pub kept : (c : Change) → Contains old.taken c → Contains new.taken c
  pub pending_from : (p : Csn) → Contains new.pending p → IsFresh old p
  pub committed_from : (c : Change) → Contains new.taken c → c.csn.rid ≡ old.rid → Contains old.taken c ⊎ IsFresh old c.csn

-- the own entry is below what is fresh
pub front-below_fresh : (n : Node) (k : Csn) → IsSoundNode n → IsFresh n k → number_of (front n n.rid) < number_of k
front-below_fresh n k s (was_pending h) =
    elim (front_own-among n s) [
      | inl e ↦
          (let z : number_of (front n n.rid) ≡ 0 = front-zero n n.rid e in
          let o : k.rid ≡ n.rid = s.pending_own k h in
          let r : 0 < n.rid = s.rid_above in
          let pos : 0 < number_of k = number_of-above_0 k (omega arith) in
          omega arith)
      | inr f ↦ subst (λ z. number_of z < number_of k) f.3 (f.4 k h)
    ]
front-below_fresh n k s (above_all r h) =
    elim (front_own-among n s) [
      | inl e ↦
          (let z : number_of (front n n.rid) ≡ 0 = front-zero n n.rid e in
          let pos : 0 < number_of k = number_of-above_0 k r in
          omega arith)
      | inr f ↦ subst (λ z. number_of z < number_of k) f.3 (h f.0 f.1)
    ]

below_fresh : (n : Node) (c : Change) (p : Csn) → Contains n.taken c → ((q : Csn) → Contains n.pending q → number_of c.csn < number_of q) → IsFresh n p → number_of c.csn < number_of p
below_fresh n c p m free (was_pending h) = free p h
below_fresh n c p m free (above_all r h) = h c m

pub goes_on : (old new : Node) → IsSoundNode old → IsSoundNode new → Moves old new → GoesOn old new
goes_on old new s t m = record {
  same_rid = m.same_rid;
  same_suffix = m.same_suffix;
  kept = m.kept;
  front_rises =
      elim (front_own-among old s) [
        | inl e ↦ (let z : number_of (front old old.rid) ≡ 0 = front-zero old old.rid e in omega arith)
        | inr f ↦
            (let up : number_of f.0.csn ≤ number_of (front new new.rid) =
            front_own-above new f.0 t (m.kept f.0 f.1) (f.2 ∙ sym m.same_rid)
            (λ p h. below_fresh old f.0 p f.1 f.4 (m.pending_from p h)) in
            let up' : number_of f.0.csn ≤ number_of (front new old.rid) = subst (λ r. number_of f.0.csn ≤ number_of (front new r)) m.same_rid up in
            subst (λ z. number_of z ≤ number_of (front new old.rid)) f.3 up')
      ];
  closed_below = λ c h own low.
      elim (m.committed_from c h own) [
        | inl q ↦ q
        | inr fresh ↦ (let b : number_of (front old old.rid) < number_of c.csn = front-below_fresh old c.csn s fresh in absurd (omega arith))
      ];
}

pub goes_on-refl : (n : Node) → GoesOn n n
goes_on-refl n = record {
  same_rid = refl;
  same_suffix = refl;
  kept = λ c h. h;
  front_rises = omega arith;
  closed_below = λ c h own low. h;
}

pub goes_on-then : (a b c : Node) → GoesOn a b → GoesOn b c → GoesOn a c
goes_on-then a b c f g = record {
  same_rid = g.same_rid ∙ f.same_rid;
  same_suffix = g.same_suffix ∙ f.same_suffix;
  kept = λ d h. g.kept d (f.kept d h);
  front_rises =
      (let up : number_of (front a a.rid) ≤ number_of (front b a.rid) = f.front_rises in
      let up' : number_of (front b a.rid) ≤ number_of (front c a.rid) = subst (λ r. number_of (front b r) ≤ number_of (front c r)) f.same_rid g.front_rises in
      omega arith);
  closed_below = λ d h own low.
      (let up : number_of (front a a.rid) ≤ number_of (front b a.rid) = f.front_rises in
      let low' : number_of d.csn ≤ number_of (front b a.rid) = omega arith in
      f.closed_below d (g.closed_below d h (own ∙ sym f.same_rid) (subst (λ r. number_of d.csn ≤ number_of (front b r)) (sym f.same_rid) low')) own low);
}
