-- A sound node's own entry is exact.
use Rattle.std.proofs.Common.{◌≡◌, ◌<◌, ◌≤◌, inl, inr, false, List, [], ◌∷◌, subst, arith, Contains}
use Rattle.std.proofs.lemmas.Bool.{cases_Bool, and_cases, true≢false}
use Rattle.repl_data.specs.declared.csn.Csn.{Csn}
use Rattle.repl_data.specs.declared.change.Change.{Change}
use Rattle.repl_data.specs.Order.{csn_lt, number_of}
use Rattle.vector_core.proofs.Lists.{Contains-here, Contains-there}
use Rattle.pending_core.specs.Pending.{is_free}
use Rattle.node_core.specs.Node.{Node, front}
use Rattle.node_core.specs.Sound.{IsPlain, IsSoundNode, IsOwnEntry, none_free, greatest_free}
use Rattle.node_core.proofs.Orders.{number_of-above_0, not_lt_number}
use Rattle.node_core.proofs.Fronts.{front-zero, front_own-above, front_own-among, is_free-below}

-- what is not free has a pending CSN at or below it
not_free : (pending : List Csn) (c : Csn) → IsPlain c → ((p : Csn) → Contains pending p → IsPlain p) → is_free pending c ≡ false → (p : Csn) × Contains pending p × (number_of p ≤ number_of c)
not_free [] c plain all e = absurd (true≢false e)
not_free (p ∷ ps) c plain all e =
    elim (and_cases (csn_lt c p) (is_free ps c) e) [
      | inl f ↦ (p, Contains-here p ps, not_lt_number c p plain (all p (Contains-here p ps)) f)
      | inr f ↦ (let r = not_free ps c plain (λ q h. all q (Contains-there p ps q h)) f in (r.0, Contains-there p ps r.0 r.1, r.2))
    ]

-- an own change above the own entry is not free
above_entry : (n : Node) (d : Change) → IsSoundNode n → Contains n.taken d → d.csn.rid ≡ n.rid → number_of (front n n.rid) < number_of d.csn → (p : Csn) × Contains n.pending p × (number_of p ≤ number_of d.csn)
above_entry n d s h own up =
    elim (cases_Bool (is_free n.pending d.csn)) [
      | inl t ↦
          (let l : number_of d.csn ≤ number_of (front n n.rid) = front_own-above n d s h own (λ p q. is_free-below n d.csn p s (s.taken_plain d h) t q) in
          absurd (omega arith))
      | inr f ↦ not_free n.pending d.csn (s.taken_plain d h) s.pending_plain f
    ]

pub own_entry : (n : Node) → IsSoundNode n → IsOwnEntry n (front n n.rid)
own_entry n s =
    elim (front_own-among n s) [
      | inl e ↦
          none_free (front-zero n n.rid e)
          (λ c h own.
          (let z : number_of (front n n.rid) ≡ 0 = front-zero n n.rid e in
          let pos : 0 < number_of c.csn = number_of-above_0 c.csn (s.taken_named c h) in
          above_entry n c s h own (omega arith)))
      | inr f ↦
          greatest_free f.0 f.1 f.2 f.3
          (λ p h. subst (λ z. number_of z < number_of p) f.3 (f.4 p h))
          (λ d h own up. above_entry n d s h own up)
    ]
