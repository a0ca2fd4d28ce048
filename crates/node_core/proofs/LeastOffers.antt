-- An offer is of the least change that the vector covers and the other vector does not.
use Rattle.std.proofs.Common.{◌≡◌, ◌<◌, ◌≤◌, inl, inr, false, List, [], ◌∷◌, map, filter, refl, sym, subst, Contains, Some}
use Rattle.std.proofs.lemmas.Bool.{cases_Bool, and_parts, and_from}
use Rattle.repl_data.specs.declared.csn.Csn.{Csn}
use Rattle.repl_data.specs.declared.change.Change.{Change}
use Rattle.repl_data.specs.declared.change.Update.{Update}
use Rattle.repl_data.specs.Order.{csn_lt, number_of}
use Rattle.repl_data.proofs.CsnTests.{csn_lt-irreflexive, csn_lt-one_way}
use Rattle.vector_core.specs.Vector.{entry_of}
use Rattle.vector_core.proofs.Lists.{Contains-nil, Contains-here, Contains-there, Contains-cons_cases, if_true, if_false, Contains-filter, filter-Contains}
use Rattle.vector_core.proofs.Greatests.{at_most-trans}
use Rattle.node_core.specs.Node.{Node, front, is_covered, update_of}
use Rattle.node_core.specs.Steps.{is_offered_to, put_in_order, in_order, first_of, offer}
use Rattle.node_core.specs.Sound.{IsSoundNode}
use Rattle.node_core.proofs.Orders.{le_number, number_le, not_lt_number, below_plain}
use Rattle.node_core.proofs.Fronts.{front_plain}
use Rattle.node_core.proofs.Draws.{Some-same, None-Some}
use Rattle.node_core.proofs.Offers.{Contains-put_in_order, Contains-in_order}

-- each change is at or below those behind it
abbrev Rising : List Change → Type 0
Rising [] = Unit {0}
Rising (c ∷ cs) = ((d : Change) → Contains cs d → csn_lt d.csn c.csn ≡ false) × Rising cs

rising_put : (c : Change) (ds : List Change) → Rising ds → Rising (put_in_order c ds)
rising_put c [] u = (λ d h. absurd (Contains-nil h), tt)
rising_put c (d ∷ ds) u =
    elim (cases_Bool (csn_lt d.csn c.csn)) [
      | inl t ↦
          subst (λ z. Rising z) (sym (if_true (d ∷ put_in_order c ds) (c ∷ (d ∷ ds)) t)) (
            λ e h.
                elim (Contains-cons_cases c ds e (Contains-put_in_order c ds e h)) [
                  | inl q ↦ subst (λ (z : Change). csn_lt z.csn d.csn ≡ false) q (csn_lt-one_way d.csn c.csn t)
                  | inr q ↦ u.0 e q
                ],
            rising_put c ds u.1,
          )
      | inr f ↦
          subst (λ z. Rising z) (sym (if_false (d ∷ put_in_order c ds) (c ∷ (d ∷ ds)) f)) (
            λ e h.
                elim (Contains-cons_cases d ds e h) [
                  | inl q ↦ subst (λ (z : Change). csn_lt z.csn c.csn ≡ false) q f
                  | inr q ↦ at_most-trans c.csn d.csn e.csn f (u.0 e q)
                ],
            u,
          )
    ]

rising_in_order : (cs : List Change) → Rising (in_order cs)
rising_in_order [] = tt
rising_in_order (c ∷ cs) = rising_put c (in_order cs) (rising_in_order cs)

put_in_order-Contains : (c : Change) (ds : List Change) (x : Change) → Contains (c ∷ ds) x → Contains (put_in_order c ds) x
put_in_order-Contains c [] x h = h
put_in_order-Contains c (d ∷ ds) x h =
    elim (cases_Bool (csn_lt d.csn c.csn)) [
      | inl t ↦
          subst (λ zs. Contains zs x) (sym (if_true (d ∷ put_in_order c ds) (c ∷ (d ∷ ds)) t))
          (elim (Contains-cons_cases c (d ∷ ds) x h) [
            | inl e ↦ Contains-there d (put_in_order c ds) x (put_in_order-Contains c ds x (subst (λ z. Contains (c ∷ ds) z) e (Contains-here c ds)))
            | inr q ↦
                elim (Contains-cons_cases d ds x q) [
                  | inl e ↦ subst (λ z. Contains (d ∷ put_in_order c ds) z) e (Contains-here d (put_in_order c ds))
                  | inr r ↦ Contains-there d (put_in_order c ds) x (put_in_order-Contains c ds x (Contains-there c ds x r))
                ]
          ])
      | inr f ↦ subst (λ zs. Contains zs x) (sym (if_false (d ∷ put_in_order c ds) (c ∷ (d ∷ ds)) f)) h
    ]

in_order-Contains : (cs : List Change) (x : Change) → Contains cs x → Contains (in_order cs) x
in_order-Contains [] x h = h
in_order-Contains (c ∷ cs) x h =
    put_in_order-Contains c (in_order cs) x
    (elim (Contains-cons_cases c cs x h) [
      | inl e ↦ subst (λ z. Contains (c ∷ in_order cs) z) e (Contains-here c (in_order cs))
      | inr q ↦ Contains-there c (in_order cs) x (in_order-Contains cs x q)
    ])

-- the offer is of the least change that fits
pub record IsLeastOffer (n : Node) (beyond : List Csn) (u : Update) : Type 0 where
  pub change : Change
  pub has : Contains n.taken change
  pub covered : number_of change.csn ≤ number_of (front n change.csn.rid)
  pub is : update_of n change ≡ u
  pub least : (d : Change) → Contains n.taken d → number_of d.csn ≤ number_of (front n d.csn.rid) → number_of (entry_of beyond d.csn.rid) < number_of d.csn → number_of change.csn ≤ number_of d.csn

pub offer-least : (n : Node) (beyond : List Csn) (u : Update) → IsSoundNode n → offer n beyond ≡ Some u → IsLeastOffer n beyond u
offer-least n beyond u s e = from_list (in_order (filter (is_offered_to n beyond) n.taken)) refl e
  where
    from_list : (cs : List Change) → in_order (filter (is_offered_to n beyond) n.taken) ≡ cs → first_of (map (update_of n) cs) ≡ Some u → IsLeastOffer n beyond u
    from_list [] q f = absurd (None-Some f)
    from_list (c ∷ cs) q f =
        (let m = Contains-in_order (filter (is_offered_to n beyond) n.taken) c (subst (λ z. Contains z c) (sym q) (Contains-here c cs)) in
        let g = Contains-filter (is_offered_to n beyond) n.taken c m in
        let p = and_parts (csn_lt (entry_of beyond c.csn.rid) c.csn) (is_covered n c.csn) g.1 in
        let up : Rising (c ∷ cs) = subst (λ z. Rising z) q (rising_in_order (filter (is_offered_to n beyond) n.taken)) in
        record {
          change = c;
          has = g.0;
          covered = le_number c.csn (front n c.csn.rid) (s.taken_plain c g.0) (front_plain n c.csn.rid s) p.1;
          is = Some-same f;
          least = λ d h l b.
              (let k = filter-Contains (is_offered_to n beyond) n.taken d h
              (and_from (csn_lt (entry_of beyond d.csn.rid) d.csn) (is_covered n d.csn) (below_plain (entry_of beyond d.csn.rid) d.csn (s.taken_plain d h) b)
              (number_le d.csn (front n d.csn.rid) (s.taken_plain d h) (front_plain n d.csn.rid s) l)) in
              let k' : Contains (c ∷ cs) d = subst (λ z. Contains z d) q (in_order-Contains (filter (is_offered_to n beyond) n.taken) d k) in
              let at_most : csn_lt d.csn c.csn ≡ false =
              elim (Contains-cons_cases c cs d k') [
                | inl same ↦ subst (λ (z : Change). csn_lt z.csn c.csn ≡ false) same (csn_lt-irreflexive c.csn)
                | inr r ↦ up.0 d r
              ] in
              not_lt_number d.csn c.csn (s.taken_plain d h) (s.taken_plain c g.0) at_most);
        })
