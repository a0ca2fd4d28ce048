-- In an honest world a node holds what it covers, and what that needs.
use Rattle.std.proofs.Common.{◌≡◌, ℕ, ◌<◌, ◌≤◌, true, inl, inr, List, refl, sym, ap, subst, ◌∙◌, arith, Contains}
use Rattle.std.proofs.lemmas.Bool.{cases_eq}
use Rattle.repl_data.specs.declared.csn.Csn.{Csn}
use Rattle.repl_data.specs.declared.csn.Uid.{Uid}
use Rattle.repl_data.specs.declared.change.Change.{Change}
use Rattle.repl_data.specs.declared.change.Update.{Update}
use Rattle.repl_data.specs.Order.{number_of}
use Rattle.repl_data.specs.Closed.{needed, is_known, is_rooted, is_sound, IsClosed}
use Rattle.vector_core.proofs.Lists.{list_all-Contains}
use Rattle.node_core.specs.Node.{Node, front}
use Rattle.node_core.proofs.Orders.{number_of-zero, number_of-above_0}
use Rattle.node_core.proofs.Fronts.{front_other-above}
use Rattle.node_core.proofs.Arrivals.{known_plain}
use Rattle.node_core.proofs.Known.{adds, known-adds, adds-csn, need-below}
use Rattle.world_core.specs.World.{node_of}
use Rattle.world_core.specs.Laws.{IsNode, AreSound, AreHonest}
use Rattle.world_core.proofs.Advances.{taker_is_node}

abbrev pub AreClosed : List Node → Type 0
AreClosed nodes = (r : ℕ) → IsNode nodes r → IsClosed (node_of nodes r).taken

module _ (nodes : List Node) (updates : List Update) (a : AreSound nodes) (h : AreHonest nodes updates) where
  pub held_at_origin : (r : ℕ) → IsNode nodes r → (c : Change) → Contains (node_of nodes r).taken c → Contains (node_of nodes c.csn.rid).taken c
  held_at_origin r i c t =
      elim (cases_eq c.csn.rid r) [
        | inl e ↦ subst (λ z. Contains (node_of nodes z).taken c) (sym e) t
        | inr d ↦ ((h.prefix r c.csn.rid i d c refl).0 t).0
      ]

  -- a node holds a change that its originator holds, where its entry has come to it
  pub held_by : (r : ℕ) → IsNode nodes r → (c : Change) → Contains (node_of nodes c.csn.rid).taken c → number_of c.csn ≤ number_of (front (node_of nodes r) c.csn.rid) → Contains (node_of nodes r).taken c
  held_by r i c t l =
      elim (cases_eq c.csn.rid r) [
        | inl e ↦ subst (λ z. Contains (node_of nodes z).taken c) e t
        | inr d ↦ (h.prefix r c.csn.rid i d c refl).1 (t, l)
      ]

  module _ (cl : AreClosed nodes) where
    pub sound_there : (r : ℕ) → IsNode nodes r → (c : Change) → Contains (node_of nodes r).taken c → is_sound c ≡ true
    sound_there r i c t = list_all-Contains is_sound (node_of nodes r).taken c (cl r i).sound t

    pub known_there : (r : ℕ) → IsNode nodes r → (c : Change) → Contains (node_of nodes r).taken c → is_known (node_of nodes r).taken (needed c.target c.body) ≡ true
    known_there r i c t = list_all-Contains (is_rooted (node_of nodes r).taken) (node_of nodes r).taken c (cl r i).rooted t

    -- what a taken change needs is below it
    pub below_there : (r : ℕ) → IsNode nodes r → (c : Change) → Contains (node_of nodes r).taken c → number_of (needed c.target c.body).csn < number_of c.csn
    below_there r i c t =
        need-below c (sound_there r i c t)
        (known_plain (node_of nodes r).taken (needed c.target c.body) (cl r i).sound (a.sound r i).taken_plain (known_there r i c t))
        ((a.sound r i).taken_plain c t)

    -- a change that adds what a covered change needs is covered too
    pub cover_of_need : (r : ℕ) → IsNode nodes r → (c x : Change) → Contains (node_of nodes r).taken c → number_of c.csn ≤ number_of (front (node_of nodes r) c.csn.rid) → Contains (node_of nodes r).taken x → adds (needed c.target c.body) x ≡ true → number_of x.csn ≤ number_of (front (node_of nodes r) x.csn.rid)
    cover_of_need r i c x t cov tx add =
        let n = node_of nodes r in
        let id : (needed c.target c.body).csn ≡ x.csn = adds-csn x (needed c.target c.body) (sound_there r i x tx) add in
        let same : number_of (needed c.target c.body).csn ≡ number_of x.csn = ap number_of id in
        let below : number_of (needed c.target c.body).csn < number_of c.csn = below_there r i c t in
        elim (cases_eq x.csn.rid r) [
          | inr d ↦ front_other-above n x.csn.rid (a.sound r i) (λ e. d (e ∙ a.named r i)) x tx refl
          | inl e ↦
              elim (cases_eq c.csn.rid r) [
                | inl f ↦
                    -- both are the node's own, and the needed one is below
                    (let l : number_of c.csn ≤ number_of (front n x.csn.rid) = subst (λ z. number_of c.csn ≤ number_of (front n z)) (f ∙ sym e) cov in
                    omega arith)
                | inr d ↦
                    -- the originator of c has what c needs, so this node has offered it
                    (let at = (h.prefix r c.csn.rid i d c refl).0 t in
                    let j = taker_is_node nodes c.csn.rid c at.0 in
                    elim (known-adds (node_of nodes c.csn.rid).taken (needed c.target c.body) (known_there c.csn.rid j c at.0)) [
                      | inl z ↦
                          (let pos : 0 < number_of x.csn = number_of-above_0 x.csn ((a.sound r i).taken_named x tx) in
                          let none : number_of (needed c.target c.body).csn ≡ 0 = ap (λ (u : Uid). number_of u.csn) z ∙ number_of-zero in
                          omega arith)
                      | inr y ↦
                          (let one : y.0.csn ≡ x.csn = sym (adds-csn y.0 (needed c.target c.body) (sound_there c.csn.rid j y.0 y.1) y.2) ∙ id in
                          let y_rid : y.0.csn.rid ≡ r = ap (λ (z : Csn). z.rid) one ∙ e in
                          let p = (h.prefix c.csn.rid r j (λ z. d (sym z)) y.0 y_rid).0 y.1 in
                          let low : number_of y.0.csn ≤ number_of (front (node_of nodes c.csn.rid) r) = p.1 in
                          let up : number_of (front (node_of nodes c.csn.rid) r) ≤ number_of (front n r) = h.behind c.csn.rid r j in
                          let s : number_of y.0.csn ≡ number_of x.csn = ap number_of one in
                          subst (λ z. number_of x.csn ≤ number_of (front n z)) (sym e) (let l : number_of x.csn ≤ number_of (front n r) = omega arith in l))
                    ])
              ]
        ]
