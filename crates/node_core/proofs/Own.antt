-- The vector's entries, from the greatest CSNs taken and the least pending one.
use Rattle.std.proofs.Common.{◌≡◌, ℕ, ◌≢◌, true, inl, inr, List, [], filter, refl, sym, ap, subst, ◌∙◌, Contains, ◌==◌, eq-eqb, eqb-true}
use Rattle.std.proofs.lemmas.Bool.{cases_eq, and_parts, and_from}
use Rattle.repl_data.specs.declared.csn.Csn.{Csn}
use Rattle.repl_data.specs.Order.{csn_lt, csn_le}
use Rattle.repl_data.proofs.CsnTests.{csn_lt-le_trans, csn_not-from_le}
use Rattle.vector_core.specs.Vector.{entry_of}
use Rattle.vector_core.proofs.Lists.{Contains-filter, filter-Contains, list_all-Contains, Contains-list_all}
use Rattle.vector_core.proofs.Greatests.{greatest_same}
use Rattle.pending_core.specs.Pending.{is_free, IsLeast}
use Rattle.change_log.specs.Log.{csns_of, is_before, prev_in}
use Rattle.node_core.specs.Node.{Node, counted, front}
use Rattle.node_core.specs.Sound.{IsSoundNode}
use Rattle.node_core.specs.Kept.{IsKept}
use Rattle.node_core.proofs.Fronts.{counted-other, counted-own}

-- nothing is pending
free_of_none : (pending : List Csn) (c : Csn) → pending ≡ [] → is_free pending c ≡ true
free_of_none pending c e = subst (λ p. is_free p c ≡ true) (sym e) refl

pub front-other_head : (n : Node) (heads : List Csn) (o : ℕ) → IsKept n heads → o ≢ n.rid → entry_of heads o ≡ front n o
front-other_head n heads o k d = k.entries o ∙ ap (λ z. entry_of z o) (sym (counted-other n o d))

pub front-none_pending : (n : Node) (heads : List Csn) (o : ℕ) → IsKept n heads → n.pending ≡ [] → entry_of heads o ≡ front n o
front-none_pending n heads o k none =
    elim (cases_eq o n.rid) [
      | inr d ↦ front-other_head n heads o k d
      | inl e ↦
          k.entries o
          ∙ greatest_same (filter (λ (c : Csn). c.rid == o) (csns_of n.taken)) (filter (λ (c : Csn). c.rid == o) (counted n o))
          (λ x h.
          let f = Contains-filter (λ (c : Csn). c.rid == o) (csns_of n.taken) x h in
          filter-Contains (λ (c : Csn). c.rid == o) (counted n o) x
          (subst (λ z. Contains z x) (sym (ap (counted n) e ∙ counted-own n)) (filter-Contains (is_free n.pending) (csns_of n.taken) x f.0 (free_of_none n.pending x none))) f.1)
          (λ x h.
          let f = Contains-filter (λ (c : Csn). c.rid == o) (counted n o) x h in
          let g = Contains-filter (is_free n.pending) (csns_of n.taken) x (subst (λ z. Contains z x) (ap (counted n) e ∙ counted-own n) f.0) in
          filter-Contains (λ (c : Csn). c.rid == o) (csns_of n.taken) x g.0 f.1)
    ]

-- below the least pending one nothing is pending
pub front-least : (n : Node) (o : ℕ) (least : Csn) → IsSoundNode n → o ≡ n.rid → Contains n.pending least → IsLeast n.pending least → prev_in n.taken least ≡ front n o
front-least n o least s e held low =
    let rid : least.rid ≡ o = s.pending_own least held ∙ sym e in
    greatest_same (filter (is_before least) (csns_of n.taken)) (filter (λ (c : Csn). c.rid == o) (counted n o))
    (λ x h.
    let f = Contains-filter (is_before least) (csns_of n.taken) x h in
    let p = and_parts (x.rid == least.rid) (csn_lt x least) f.1 in
    filter-Contains (λ (c : Csn). c.rid == o) (counted n o) x
    (subst (λ z. Contains z x) (sym (ap (counted n) e ∙ counted-own n)) (filter-Contains (is_free n.pending) (csns_of n.taken) x f.0 (free x p.1)))
    (eq-eqb x.rid o (eqb-true x.rid least.rid p.0 ∙ rid)))
    (λ x h.
    let f = Contains-filter (λ (c : Csn). c.rid == o) (counted n o) x h in
    let g = Contains-filter (is_free n.pending) (csns_of n.taken) x (subst (λ z. Contains z x) (ap (counted n) e ∙ counted-own n) f.0) in
    filter-Contains (is_before least) (csns_of n.taken) x g.0
    (and_from (x.rid == least.rid) (csn_lt x least) (eq-eqb x.rid least.rid (eqb-true x.rid o f.1 ∙ sym rid)) (list_all-Contains (λ held. csn_lt x held) n.pending least g.1 held)))
  where
    free : (x : Csn) → csn_lt x least ≡ true → is_free n.pending x ≡ true
    free x below = Contains-list_all (λ h. csn_lt x h) n.pending (λ p q. csn_lt-le_trans x least p below (csn_not-from_le least p (at p q)))
      where
        at : (p : Csn) → Contains n.pending p → csn_le least p ≡ true
        at p q = subst (λ z. csn_le least z ≡ true) q.2 (low q.0 p q.1)
