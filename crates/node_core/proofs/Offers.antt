-- What a node offers is an update of a change that its vector covers.
use Rattle.std.proofs.Common.{◌≡◌, ◌≤◌, inl, inr, List, [], ◌∷◌, filter, refl, sym, subst, Contains, Some}
use Rattle.std.proofs.lemmas.Bool.{cases_Bool, and_parts}
use Rattle.repl_data.specs.declared.csn.Csn.{Csn}
use Rattle.repl_data.specs.declared.change.Change.{Change}
use Rattle.repl_data.specs.declared.change.Update.{Update}
use Rattle.repl_data.specs.Order.{csn_lt, number_of}
use Rattle.vector_core.specs.Vector.{entry_of}
use Rattle.vector_core.proofs.Lists.{Contains-here, Contains-there, Contains-cons_cases, if_true, if_false, Contains-filter, Contains-map}
use Rattle.node_core.specs.Node.{Node, front, is_covered, update_of}
use Rattle.node_core.specs.Steps.{is_offered_to, put_in_order, in_order, offers, first_of, offer}
use Rattle.node_core.specs.Sound.{IsSoundNode}
use Rattle.node_core.proofs.Orders.{le_number}
use Rattle.node_core.proofs.Fronts.{front_plain}
use Rattle.node_core.proofs.Draws.{Some-same, None-Some}

pub Contains-put_in_order : (c : Change) (ds : List Change) (x : Change) → Contains (put_in_order c ds) x → Contains (c ∷ ds) x
Contains-put_in_order c [] x h = h
Contains-put_in_order c (d ∷ ds) x h =
    elim (cases_Bool (csn_lt d.csn c.csn)) [
      | inl t ↦
          elim (Contains-cons_cases d (put_in_order c ds) x (subst (λ zs. Contains zs x) (if_true (d ∷ put_in_order c ds) (c ∷ (d ∷ ds)) t) h)) [
            | inl e ↦ Contains-there c (d ∷ ds) x (subst (λ z. Contains (d ∷ ds) z) e (Contains-here d ds))
            | inr q ↦
                elim (Contains-cons_cases c ds x (Contains-put_in_order c ds x q)) [
                  | inl e ↦ subst (λ z. Contains (c ∷ (d ∷ ds)) z) e (Contains-here c (d ∷ ds))
                  | inr r ↦ Contains-there c (d ∷ ds) x (Contains-there d ds x r)
                ]
          ]
      | inr f ↦ subst (λ zs. Contains zs x) (if_false (d ∷ put_in_order c ds) (c ∷ (d ∷ ds)) f) h
    ]

pub Contains-in_order : (cs : List Change) (x : Change) → Contains (in_order cs) x → Contains cs x
Contains-in_order [] x h = h
Contains-in_order (c ∷ cs) x h =
    elim (Contains-cons_cases c (in_order cs) x (Contains-put_in_order c (in_order cs) x h)) [
      | inl e ↦ subst (λ z. Contains (c ∷ cs) z) e (Contains-here c cs)
      | inr q ↦ Contains-there c cs x (Contains-in_order cs x q)
    ]

-- an update that node n may offer: of a change that its vector covers
pub record IsOffer (n : Node) (u : Update) : Type 0 where
  pub change : Change
  pub has : Contains n.taken change
  pub covered : number_of change.csn ≤ number_of (front n change.csn.rid)
  pub is : update_of n change ≡ u

offers-are : (n : Node) (beyond : List Csn) (u : Update) → IsSoundNode n → Contains (offers n beyond) u → IsOffer n u
offers-are n beyond u s h =
    let m = Contains-map (update_of n) (in_order (filter (is_offered_to n beyond) n.taken)) u h in
    let f = Contains-filter (is_offered_to n beyond) n.taken m.0 (Contains-in_order (filter (is_offered_to n beyond) n.taken) m.0 m.1) in
    let p = and_parts (csn_lt (entry_of beyond m.0.csn.rid) m.0.csn) (is_covered n m.0.csn) f.1 in
    record {
      change = m.0;
      has = f.0;
      covered = le_number m.0.csn (front n m.0.csn.rid) (s.taken_plain m.0 f.0) (front_plain n m.0.csn.rid s) p.1;
      is = m.2;
    }

pub offer-is : (n : Node) (beyond : List Csn) (u : Update) → IsSoundNode n → offer n beyond ≡ Some u → IsOffer n u
offer-is n beyond u s e = from_list (offers n beyond) refl e
  where
    from_list : (us : List Update) → offers n beyond ≡ us → first_of us ≡ Some u → IsOffer n u
    from_list [] q f = absurd (None-Some f)
    from_list (v ∷ vs) q f = offers-are n beyond u s (subst (λ z. Contains z u) (sym q) (subst (λ z. Contains (v ∷ vs) z) (Some-same f) (Contains-here v vs)))
