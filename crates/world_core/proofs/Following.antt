-- What a supplier offers to a consumer that has followed it: nothing is lacking there.
use Rattle.std.proofs.Common.{◌≡◌, ℕ, ◌<◌, ◌≤◌, true, inl, inr, List, sym, ap, subst, ◌∙◌, arith, Contains}
use Rattle.std.proofs.lemmas.Bool.{cases_lt}
use Rattle.repl_data.specs.declared.csn.Csn.{Csn}
use Rattle.repl_data.specs.declared.change.Change.{Change}
use Rattle.repl_data.specs.declared.change.Update.{Update}
use Rattle.repl_data.specs.Order.{number_of}
use Rattle.repl_data.specs.Closed.{needed, is_known}
use Rattle.vector_core.specs.Vector.{entry_of}
use Rattle.change_log.specs.Log.{prev_in}
use Rattle.node_core.specs.Node.{Node, front}
use Rattle.node_core.proofs.Orders.{number_of-zero, plain_same}
use Rattle.node_core.proofs.Fronts.{front-zero, front-among, front_plain}
use Rattle.node_core.proofs.Prevs.{prev-above, prev-among}
use Rattle.node_core.proofs.Known.{known-adds, suffix_known, adds-known, adds-csn}
use Rattle.world_core.specs.World.{node_of}
use Rattle.world_core.specs.Laws.{IsNode, AreSound, AreHonest}
use Rattle.world_core.specs.Sessions.{IsFollowed}
use Rattle.world_core.proofs.Holding.{AreClosed, held_at_origin, held_by, sound_there, known_there, below_there, cover_of_need}

-- a change that the supplier s covers, where the consumer r has what the supplier covers beyond the cursor and below it
pub record IsServed (s r : Node) (cursor : List Csn) (c : Change) : Type 0 where
  pub has : Contains s.taken c
  pub covered : number_of c.csn ≤ number_of (front s c.csn.rid)
  pub served : (d : Change) → Contains s.taken d → number_of d.csn ≤ number_of (front s d.csn.rid) → number_of (entry_of cursor d.csn.rid) < number_of d.csn → number_of d.csn < number_of c.csn → number_of d.csn ≤ number_of (front r d.csn.rid)

module _ (nodes : List Node) (updates : List Update) (a : AreSound nodes) (h : AreHonest nodes updates) (s r : ℕ) (i : IsNode nodes s) (j : IsNode nodes r) (cursor : List Csn) (follows : IsFollowed (node_of nodes r) cursor) (c : Change) (sv : IsServed (node_of nodes s) (node_of nodes r) cursor c) where
  has_come : (d : Change) → Contains (node_of nodes s).taken d → number_of d.csn ≤ number_of (front (node_of nodes s) d.csn.rid) → number_of d.csn < number_of c.csn → number_of d.csn ≤ number_of (front (node_of nodes r) d.csn.rid)
  has_come d m l b =
      elim (cases_lt (number_of (entry_of cursor d.csn.rid)) (number_of d.csn)) [
        | inl q ↦ sv.served d m l q b
        | inr q ↦ (let f : number_of (entry_of cursor d.csn.rid) ≤ number_of (front (node_of nodes r) d.csn.rid) = follows d.csn.rid in omega arith)
      ]

  -- the change before it is the one that the consumer has come to
  pub no_gap : number_of (front (node_of nodes r) c.csn.rid) < number_of c.csn → prev_in (node_of nodes s).taken c.csn ≡ front (node_of nodes r) c.csn.rid
  no_gap up =
      let plain = (a.sound s i).taken_plain c sv.has in
      let p = prev_in (node_of nodes s).taken c.csn in
      let among = prev-among (node_of nodes s).taken c.csn (a.sound s i).taken_plain plain in
      let cov : number_of c.csn ≤ number_of (front (node_of nodes s) c.csn.rid) = sv.covered in
      let le : number_of p ≤ number_of (front (node_of nodes r) c.csn.rid) =
      elim among.0 [
        | inl e ↦ (let z : number_of p ≡ 0 = ap number_of e ∙ number_of-zero in omega arith)
        | inr f ↦
            (let b : number_of f.0.csn < number_of c.csn = f.4 in
            let l : number_of f.0.csn ≤ number_of (front (node_of nodes s) f.0.csn.rid) =
            subst (λ z. number_of f.0.csn ≤ number_of (front (node_of nodes s) z)) (sym f.2) (let m : number_of f.0.csn ≤ number_of (front (node_of nodes s) c.csn.rid) = omega arith in m) in
            let w : number_of f.0.csn ≤ number_of (front (node_of nodes r) f.0.csn.rid) = has_come f.0 f.1 l f.4 in
            let w' : number_of f.0.csn ≤ number_of (front (node_of nodes r) c.csn.rid) = subst (λ z. number_of f.0.csn ≤ number_of (front (node_of nodes r) z)) f.2 w in
            let same : number_of f.0.csn ≡ number_of p = ap number_of f.3 in
            omega arith)
      ] in
      let ge : number_of (front (node_of nodes r) c.csn.rid) ≤ number_of p =
      elim (front-among (node_of nodes r) c.csn.rid) [
        | inl e ↦ (let z : number_of (front (node_of nodes r) c.csn.rid) ≡ 0 = front-zero (node_of nodes r) c.csn.rid e in omega arith)
        | inr q ↦
            (let same : number_of q.0.csn ≡ number_of (front (node_of nodes r) c.csn.rid) = ap number_of q.3 in
            let b : number_of q.0.csn < number_of c.csn = omega arith in
            let l : number_of q.0.csn ≤ number_of (front (node_of nodes s) q.0.csn.rid) =
            subst (λ z. number_of q.0.csn ≤ number_of (front (node_of nodes s) z)) (sym q.2) (let m : number_of q.0.csn ≤ number_of (front (node_of nodes s) c.csn.rid) = omega arith in m) in
            let m = held_by nodes updates a h s i q.0 (held_at_origin nodes updates a h r j q.0 q.1) l in
            let w : number_of q.0.csn ≤ number_of p = prev-above (node_of nodes s).taken c.csn q.0 (a.sound s i).taken_plain plain m q.2 b in
            omega arith)
      ] in
      plain_same p (front (node_of nodes r) c.csn.rid) among.1 (front_plain (node_of nodes r) c.csn.rid (a.sound r j)) (omega arith)

  module _ (cl : AreClosed nodes) where
    -- the entry that it needs is known to the consumer
    pub need_known : is_known (node_of nodes r).taken (needed c.target c.body) ≡ true
    need_known =
        elim (known-adds (node_of nodes s).taken (needed c.target c.body) (known_there nodes updates a h cl s i c sv.has)) [
          | inl z ↦ suffix_known (node_of nodes r).taken (needed c.target c.body) z
          | inr x ↦
              (let below : number_of (needed c.target c.body).csn < number_of c.csn = below_there nodes updates a h cl s i c sv.has in
              let id : number_of (needed c.target c.body).csn ≡ number_of x.0.csn = ap number_of (adds-csn x.0 (needed c.target c.body) (sound_there nodes updates a h cl s i x.0 x.1) x.2) in
              let b : number_of x.0.csn < number_of c.csn = omega arith in
              let xc = cover_of_need nodes updates a h cl s i c x.0 sv.has sv.covered x.1 x.2 in
              let m = held_by nodes updates a h r j x.0 (held_at_origin nodes updates a h s i x.0 x.1) (has_come x.0 x.1 xc b) in
              adds-known (node_of nodes r).taken (needed c.target c.body) x.0 m x.2)
        ]
