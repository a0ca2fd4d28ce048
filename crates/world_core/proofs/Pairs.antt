-- A holder and an origin: what a step of the one or of the other leaves of the prefix, the vectors and the offers.
use Rattle.std.proofs.Common.{◌≡◌, ℕ, ◌<◌, ◌≤◌, ◌≢◌, inl, inr, refl, sym, ap, subst, ◌∙◌, arith, Contains}
use Rattle.std.proofs.lemmas.Bool.{cases_lt}
use Rattle.repl_data.specs.declared.change.Change.{Change}
use Rattle.repl_data.specs.declared.change.Update.{Update}
use Rattle.repl_data.specs.Order.{number_of}
use Rattle.change_log.specs.Log.{prev_in}
use Rattle.node_core.specs.Node.{Node, front, update_of}
use Rattle.node_core.specs.Sound.{IsSoundNode, GoesOn}
use Rattle.node_core.proofs.Fronts.{front-zero, front-among, front_other-above}
use Rattle.node_core.proofs.Alone.{GoesAlone}
use Rattle.node_core.proofs.Applies.{TakesOne}
use Rattle.node_core.proofs.Prevs.{prev-above, prev_same}
use Rattle.world_core.specs.Laws.{HoldsPrefix, IsOfferedBy}

-- ---- the origin moves

pub prefix_of_origin : (n origin new : Node) (o : ℕ) → origin.rid ≡ o → GoesOn origin new → number_of (front n o) ≤ number_of (front origin o) → HoldsPrefix n origin o → HoldsPrefix n new o
prefix_of_origin n origin new o named g behind p c e = (
  λ h. (let q = (p c e).0 h in (g.kept c q.0, q.1)),
  λ q. (p c e).1 (
    g.closed_below c q.0 (e ∙ sym named)
        (subst (λ r. number_of c.csn ≤ number_of (front origin r)) (sym named)
        (let l : number_of c.csn ≤ number_of (front n o) = q.1 in omega arith)),
    q.1,
  ),
)

pub behind_of_origin : (n origin new : Node) (o : ℕ) → origin.rid ≡ o → GoesOn origin new → number_of (front n o) ≤ number_of (front origin o) → number_of (front n o) ≤ number_of (front new o)
behind_of_origin n origin new o named g behind =
    let up : number_of (front origin o) ≤ number_of (front new o) = subst (λ r. number_of (front origin r) ≤ number_of (front new r)) named g.front_rises in
    omega arith

pub offered_of_origin : (origin new : Node) (u : Update) → origin.rid ≡ u.change.csn.rid → IsSoundNode origin → IsSoundNode new → GoesOn origin new → IsOfferedBy origin u → IsOfferedBy new u
offered_of_origin origin new u named s t g i = record {
  committed = g.kept u.change i.committed;
  settled = behind_of_origin_at;
  prev_is =
      i.prev_is
      ∙ prev_same origin.taken new.taken u.change.csn s.taken_plain t.taken_plain (s.taken_plain u.change i.committed)
      (λ c e l h. g.kept c h)
      (λ c e l h. g.closed_below c h (e ∙ sym named)
      (subst (λ r. number_of c.csn ≤ number_of (front origin r)) (sym named)
      (let low : number_of u.change.csn ≤ number_of (front origin u.change.csn.rid) = i.settled in omega arith)));
}
  where
    behind_of_origin_at : number_of u.change.csn ≤ number_of (front new u.change.csn.rid)
    behind_of_origin_at =
        let up : number_of (front origin u.change.csn.rid) ≤ number_of (front new u.change.csn.rid) = subst (λ r. number_of (front origin r) ≤ number_of (front new r)) named g.front_rises in
        let low : number_of u.change.csn ≤ number_of (front origin u.change.csn.rid) = i.settled in
        omega arith

-- ---- the holder moves alone

pub front_low : (n new : Node) (o : ℕ) → IsSoundNode new → o ≢ n.rid → new.rid ≡ n.rid → ((c : Change) → c.csn.rid ≡ o → Contains n.taken c → Contains new.taken c) → number_of (front n o) ≤ number_of (front new o)
front_low n new o t other same sub =
    elim (front-among n o) [
      | inl e ↦ (let z : number_of (front n o) ≡ 0 = front-zero n o e in omega arith)
      | inr f ↦
          subst (λ z. number_of z ≤ number_of (front new o)) f.3
          (front_other-above new o t (λ q. other (q ∙ same)) f.0 (sub f.0 f.2 f.1) f.2)
    ]

pub front_of_alone : (n new : Node) (o : ℕ) → IsSoundNode n → o ≢ n.rid → GoesAlone n new → number_of (front new o) ≡ number_of (front n o)
front_of_alone n new o s other g =
    let a : number_of (front n o) ≤ number_of (front new o) = front_low n new o g.sound other g.on.same_rid (λ c e h. g.on.kept c h) in
    let b : number_of (front new o) ≤ number_of (front n o) =
    front_low new n o s (λ q. other (q ∙ g.on.same_rid)) (sym g.on.same_rid) (λ c e h. g.no_other c h (λ q. other (sym e ∙ q))) in
    omega arith

pub prefix_of_alone : (n new origin : Node) (o : ℕ) → IsSoundNode n → o ≢ n.rid → GoesAlone n new → HoldsPrefix n origin o → HoldsPrefix new origin o
prefix_of_alone n new origin o s other g p c e =
    let f : number_of (front new o) ≡ number_of (front n o) = front_of_alone n new o s other g in (
      λ h. (let q = (p c e).0 (g.no_other c h (λ r. other (sym e ∙ r))) in (q.0, (let l : number_of c.csn ≤ number_of (front n o) = q.1 in omega arith))),
      λ q. g.on.kept c ((p c e).1 (q.0, (let l : number_of c.csn ≤ number_of (front new o) = q.1 in omega arith))),
    )

-- ---- the holder takes an update

-- of the originator of the update
pub front_of_taken : (n new : Node) (c : Change) → IsSoundNode n → c.csn.rid ≢ n.rid → TakesOne n new c → number_of (front n c.csn.rid) < number_of c.csn → number_of (front new c.csn.rid) ≡ number_of c.csn
front_of_taken n new c s other t above =
    let o = c.csn.rid in
    let other' : c.csn.rid ≢ new.rid = λ q. other (q ∙ t.on.same_rid) in
    let low : number_of c.csn ≤ number_of (front new c.csn.rid) = front_other-above new c.csn.rid t.sound other' c t.has refl in
    elim (front-among new c.csn.rid) [
      | inl e ↦ (let z : number_of (front new c.csn.rid) ≡ 0 = front-zero new c.csn.rid e in omega arith)
      | inr f ↦
          elim (t.only f.0 f.1) [
            | inl q ↦
                (let m : number_of f.0.csn ≤ number_of (front n c.csn.rid) = front_other-above n c.csn.rid s other f.0 q f.2 in
                let same : number_of f.0.csn ≡ number_of (front new c.csn.rid) = ap number_of f.3 in
                omega arith)
            | inr q ↦
                (let same : number_of f.0.csn ≡ number_of (front new c.csn.rid) = ap number_of f.3 in
                let r : number_of c.csn ≡ number_of f.0.csn = ap (λ (z : Change). number_of z.csn) q in
                omega arith)
          ]
    ]

pub prefix_of_taken : (n new origin : Node) (u : Update) → IsSoundNode n → u.change.csn.rid ≢ n.rid → TakesOne n new u.change → number_of (front n u.change.csn.rid) < number_of u.change.csn → u.prev ≡ front n u.change.csn.rid → IsSoundNode origin → IsOfferedBy origin u → HoldsPrefix n origin u.change.csn.rid → HoldsPrefix new origin u.change.csn.rid
prefix_of_taken n new origin u sn other t above no_gap s i p c e =
    let f : number_of (front new u.change.csn.rid) ≡ number_of u.change.csn = front_of_taken n new u.change sn other t above in (
      λ h.
          elim (t.only c h) [
            | inl q ↦ (let r = (p c e).0 q in (r.0, (let l : number_of c.csn ≤ number_of (front n u.change.csn.rid) = r.1 in omega arith)))
            | inr q ↦ (subst (λ z. Contains origin.taken z) q i.committed, (let r : number_of u.change.csn ≡ number_of c.csn = ap (λ (z : Change). number_of z.csn) q in omega arith))
          ],
      λ q.
          elim (cases_lt (number_of c.csn) (number_of u.change.csn)) [
            | inl l ↦
                (let m : number_of c.csn ≤ number_of (prev_in origin.taken u.change.csn) = prev-above origin.taken u.change.csn c s.taken_plain (s.taken_plain u.change i.committed) q.0 e l in
                let v : number_of u.prev ≡ number_of (prev_in origin.taken u.change.csn) = ap number_of i.prev_is in
                let gap : number_of u.prev ≡ number_of (front n u.change.csn.rid) = ap number_of no_gap in
                let w : number_of c.csn ≤ number_of (front n u.change.csn.rid) = omega arith in
                t.on.kept c ((p c e).1 (q.0, w)))
            | inr l ↦
                (let m : number_of c.csn ≤ number_of (front new u.change.csn.rid) = q.1 in
                let same : number_of u.change.csn ≡ number_of c.csn = omega arith in
                subst (λ z. Contains new.taken z) (s.once u.change c i.committed q.0 same) t.has)
          ],
    )

-- of another originator
front_of_taken_other : (n new : Node) (c : Change) (o : ℕ) → IsSoundNode n → o ≢ n.rid → o ≢ c.csn.rid → TakesOne n new c → number_of (front new o) ≡ number_of (front n o)
front_of_taken_other n new c o s other apart t =
    let a : number_of (front n o) ≤ number_of (front new o) = front_low n new o t.sound other t.on.same_rid (λ d e h. t.on.kept d h) in
    let b : number_of (front new o) ≤ number_of (front n o) =
    front_low new n o s (λ q. other (q ∙ t.on.same_rid)) (sym t.on.same_rid)
    (λ d e h. elim (t.only d h) [ inl q ↦ q | inr q ↦ absurd (apart (sym e ∙ sym (ap (λ (z : Change). z.csn.rid) q))) ]) in
    omega arith

pub behind_of_taken_other : (n new : Node) (c : Change) (o top : ℕ) → IsSoundNode n → o ≢ n.rid → o ≢ c.csn.rid → TakesOne n new c → number_of (front n o) ≤ top → number_of (front new o) ≤ top
behind_of_taken_other n new c o top s other apart t l =
    let f : number_of (front new o) ≡ number_of (front n o) = front_of_taken_other n new c o s other apart t in omega arith

pub prefix_of_taken_other : (n new origin : Node) (c : Change) (o : ℕ) → IsSoundNode n → o ≢ n.rid → o ≢ c.csn.rid → TakesOne n new c → HoldsPrefix n origin o → HoldsPrefix new origin o
prefix_of_taken_other n new origin c o s other apart t p d e =
    let f : number_of (front new o) ≡ number_of (front n o) = front_of_taken_other n new c o s other apart t in (
      λ h.
          elim (t.only d h) [
            | inl q ↦ (let r = (p d e).0 q in (r.0, (let l : number_of d.csn ≤ number_of (front n o) = r.1 in omega arith)))
            | inr q ↦ absurd (apart (sym e ∙ sym (ap (λ (z : Change). z.csn.rid) q)))
          ],
      λ q. t.on.kept d ((p d e).1 (q.0, (let l : number_of d.csn ≤ number_of (front new o) = q.1 in omega arith))),
    )

-- ---- the holder offers

pub offered_of_holder : (n origin : Node) (c : Change) → Contains n.taken c → IsSoundNode n → IsSoundNode origin → HoldsPrefix n origin c.csn.rid → number_of (front n c.csn.rid) ≤ number_of (front origin c.csn.rid) → IsOfferedBy origin (update_of n c)
offered_of_holder n origin c h s t p behind =
    let q = (p c refl).0 h in
    let l : number_of c.csn ≤ number_of (front n c.csn.rid) = q.1 in
    record {
      committed = q.0;
      settled = omega arith;
      prev_is =
          prev_same n.taken origin.taken c.csn s.taken_plain t.taken_plain (s.taken_plain c h)
          (λ d e l' k. ((p d e).0 k).0)
          (λ d e l' k. (p d e).1 (k, omega arith));
    }
